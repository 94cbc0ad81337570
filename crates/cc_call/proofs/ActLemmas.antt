-- Acts one after the other: where they lead, and acts that write one place each.
use Rattle.std.proofs.Common.{◌≡◌, ℕ, suc, ◌+◌, ◌<◌, List, [], ◌∷◌, ◌++◌, length, Option, false, refl, sym, ap, ◌∙◌, subst, arith, append_assoc, length-append}
use Rattle.std.specs.Prelude.{ℤ, slice_set}
use Rattle.std.proofs.lemmas.List.{set_at}
use Rattle.mc_nbt.specs.Tree.{Tree}
use Rattle.mc_cmd.specs.Form.{Text}
use Rattle.cc_line.specs.Sight.{Store}
use Rattle.cc_line.specs.State.{State, with_place}
use Rattle.cc_line.specs.Step.{Act, run_act, after_act, step_weight, flow, more, ActReady}
use Rattle.cc_line.specs.Item.{Items, no_more, run_items, ItemsReady}
use Rattle.cc_call.specs.Acts.{acts_then, after_acts, ActsReady}
use Rattle.cc_call.specs.Law.{ActsLead}

-- ---- one after the other

pub acts_append : (xs ys : List Act) (s : State) → after_acts (xs ++ ys) s ≡ after_acts ys (after_acts xs s)
acts_append [] ys s = refl
acts_append (x ∷ xs) ys s = acts_append xs ys (after_act x s)

pub ready_append : (xs ys : List Act) (s : State) → ActsReady xs s → ActsReady ys (after_acts xs s) → ActsReady (xs ++ ys) s
ready_append [] ys s f g = g
ready_append (x ∷ xs) ys s f g = (f.0, ready_append xs ys (after_act x s) f.1 g)

-- as items
pub acts_run : (acts : List Act) (rest : Items) (s : State) → ActsReady acts s → ItemsReady rest (after_acts acts s)
    → ItemsReady (acts_then acts rest) s × ((run_items (acts_then acts rest) s).state ≡ (run_items rest (after_acts acts s)).state)
acts_run [] rest s r w = (w, refl)
acts_run (a ∷ acts) rest s r w = let n = acts_run acts rest (after_act a s) r.1 w in ((r.0, λ e. n.0), n.1)

pub acts_end_so : (acts : List Act) (s : State) → (k : ℕ) × (run_items (acts_then acts no_more) s ≡ flow false (after_acts acts s) k)
acts_end_so [] s = (0, refl)
acts_end_so (a ∷ acts) s = let n = acts_end_so acts (after_act a s) in (_, ap (more (step_weight (run_act a))) n.1)

-- ---- where they lead

pub lead_none : (P : State → Type 0) (s : State) → P s → ActsLead [] s P
lead_none P s p = record { ready = tt; there = p }

pub lead_first : (P : State → Type 0) (a : Act) (acts : List Act) (s : State) → ActReady a s → ActsLead acts (after_act a s) P → ActsLead (a ∷ acts) s P
lead_first P a acts s r f = record { ready = (r, f.ready); there = f.there }

pub lead_one : (P : State → Type 0) (a : Act) (s : State) → ActReady a s → P (after_act a s) → ActsLead (a ∷ []) s P
lead_one P a s r p = record { ready = (r, tt); there = p }

pub lead_then : (P Q : State → Type 0) (xs ys : List Act) (s : State) → ActsLead xs s P → ((t : State) → P t → ActsLead ys t Q) → ActsLead (xs ++ ys) s Q
lead_then P Q xs ys s f g =
    let h = g (after_acts xs s) f.there in
    record { ready = ready_append xs ys s f.ready h.ready; there = subst Q (sym (acts_append xs ys s)) h.there }

pub lead_as : (P Q : State → Type 0) (acts : List Act) (s : State) → ActsLead acts s P → ((t : State) → P t → Q t) → ActsLead acts s Q
lead_as P Q acts s f g = record { ready = f.ready; there = g (after_acts acts s) f.there }

-- ---- acts that write one place each

abbrev pub with_places : State → List ℤ → State
with_places s zs = record s { places = zs }

-- Where these scores and these keys stand, the acts write these numbers, one each, into the places from one on.
abbrev pub Writes : (Text → Option ℤ) → (Store → Text → Option Tree) → ℕ → List ℤ → List Act → Type 0
Writes scores keys i [] [] = Unit {0}
Writes scores keys i [] (a ∷ acts) = ⊥
Writes scores keys i (z ∷ zs) [] = ⊥
Writes scores keys i (z ∷ zs) (a ∷ acts) =
    ((t : State) → t.scores ≡ scores → t.keys ≡ keys → i < length t.places → ActReady a t × (after_act a t ≡ with_place t i z)) × Writes scores keys (suc i) zs acts

shifted : (pre : List ℤ) (x : ℤ) (rest : List ℤ) → pre ++ (x ∷ rest) ≡ (pre ++ (x ∷ [])) ++ rest
shifted pre x rest = sym (append_assoc pre (x ∷ []) rest)

one_more : (pre : List ℤ) (x : ℤ) (i : ℕ) → length pre ≡ i → length (pre ++ (x ∷ [])) ≡ suc i
one_more pre x i e = let a : length (pre ++ (x ∷ [])) ≡ length pre + 1 = length-append pre (x ∷ []) in omega arith

pub written : (acts : List Act) (zs : List ℤ) (i : ℕ) (s : State) (pre old rest : List ℤ) → Writes s.scores s.keys i zs acts → s.places ≡ pre ++ (old ++ rest) → length pre ≡ i → length old ≡ length zs
    → ActsLead acts s (λ t. t ≡ with_places s (pre ++ (zs ++ rest)))
written [] [] i s pre [] rest w e f g = lead_none (λ t. t ≡ with_places s (pre ++ rest)) s (ap (with_places s) e)
written [] [] i s pre (o ∷ old) rest w e f g = absurd (omega arith)
written [] (z ∷ zs) i s pre old rest w e f g = absurd w
written (a ∷ acts) [] i s pre old rest w e f g = absurd w
written (a ∷ acts) (z ∷ zs) i s pre [] rest w e f g = absurd (omega arith)
written (a ∷ acts) (z ∷ zs) i s pre (o ∷ old) rest w e f g =
    let P : State → Type 0 = λ t. t ≡ with_places s (pre ++ ((z ∷ zs) ++ rest)) in
    let a1 : length s.places ≡ length (pre ++ (o ∷ (old ++ rest))) = ap length e in
    let a2 : length (pre ++ (o ∷ (old ++ rest))) ≡ length pre + length (o ∷ (old ++ rest)) = length-append pre (o ∷ (old ++ rest)) in
    let r : i < length s.places = omega arith in
    let h = w.0 s refl refl r in
    let t : State = with_place s i z in
    let p : t.places ≡ (pre ++ (z ∷ [])) ++ (old ++ rest) = ap (λ l. slice_set l i z) e ∙ set_at pre o (old ++ rest) z i f ∙ shifted pre z (old ++ rest) in
    let deeper = written acts zs (suc i) t (pre ++ (z ∷ [])) old rest w.1 p (one_more pre z i f) (omega arith) in
    let there : ActsLead acts t P = lead_as (λ u. u ≡ with_places t ((pre ++ (z ∷ [])) ++ (zs ++ rest))) P acts t deeper (λ u q. q ∙ ap (with_places s) (sym (shifted pre z (zs ++ rest)))) in
    lead_first P a acts s h.0 (subst (λ u. ActsLead acts u P) (sym h.1) there)
