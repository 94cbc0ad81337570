-- Routines on `#a` and `#b` with lines that a compound fills: how their parts are put together, and what a look-up leaves.
use Rattle.std.proofs.Common.{◌≡◌, ℕ, ◌+◌, ◌<◌, List, [], ◌∷◌, length, Option, Some, None, Bool, true, false, refl, sym, ap, ap₂, ◌∙◌, subst, zero-le}
use Rattle.std.specs.Prelude.{ℤ, ◌&&◌, if◌then◌else◌, codes, slice_set}
use Rattle.std.specs.Int.{w32, cast_unsigned}
use Rattle.std.specs.List.{list_all}
use Rattle.std.specs.Str.{bytes_eq}
use Rattle.std.proofs.lemmas.Option.{same_Some}
use Rattle.std.proofs.lemmas.Slice.Eq.{bytes_eq-Decides}
use Rattle.mc_nbt.specs.Tree.{Tree}
use Rattle.mc_nbt.specs.Word.{is_int}
use Rattle.mc_nbt.specs.declared.value.Value.TheVariants as values
use Rattle.mc_nbt.proofs.TestLemmas.{and_first, and_second}
use Rattle.mc_cmd.specs.Form.{Text}
use Rattle.wm_ast.specs.declared.answer.Answer.{Answer}
use Rattle.wm_ast.specs.declared.answer.Answer.TheVariants as answers
use Rattle.mc_cmd.specs.Command.{Op}
use Rattle.mc_cmd.specs.World.{or_zero, operate}
use Rattle.cc_line.specs.Sight.{Store, in_io, in_memory, in_rest, same_store, with_key}
use Rattle.cc_line.specs.Place.{scratch}
use Rattle.cc_line.specs.Key.{is_work, is_work_key}
use Rattle.cc_line.specs.State.{State, Site, selected, place_at, read, with_copy, with_place, with_score, with_tree}
use Rattle.cc_line.specs.Standing.{Standing}
use Rattle.cc_line.specs.Step.{Act, set_spot, increase, combine, load_site, keep_site, set_site, copy_site, Step, after_act, combined, with_some_spot, conds_hold, run_act, when, stop_when, flow, more, run_steps, after_step, step_weight, steps_weight, with_kept}
use Rattle.cc_line.specs.Core.{Straight}
use Rattle.cc_line.specs.OpenStep.{OpenStep, HasSomeInts, steps_names}
use Rattle.cc_line.specs.Item.{step_item, call_item, fill_item, Items, no_more, first, join, called, filled_steps}
use Rattle.cc_line.specs.Routine.{Gives, Performs, outcome_of}
use Rattle.cc_line.specs.Within.{steps_within}
use Rattle.cc_line.proofs.CoreLemmas.{work_apart}
use Rattle.cc_line.proofs.RunLemmas.{Leads, leads_none, leads_first, leads_join}
use Rattle.cc_line.proofs.SettleLemmas.{with_one, with_two, settled, works, settled_beside, settled_places, settled_keys}
use Rattle.cc_line.proofs.StandingLemmas.{standing_beside}
use Rattle.cc_line.proofs.WithinLemmas.{steps_found}
use Rattle.cc_line.proofs.Words.{score, by_word}
use Rattle.cc_bits.specs.Line.{loads, keeps, one_step, of_one, of_two}

-- ---- what is left alone

-- nothing differs but the scratch scores and the scratch keys of routines
pub record Near (s t : State) : Type 0 where
  pub places : t.places ≡ s.places
  pub keys : (r : Store) (k : Text) → is_work_key r k ≡ false → t.keys r k ≡ s.keys r k
  pub scores : (h : Text) → is_work h ≡ false → t.scores h ≡ s.scores h

pub near_then : (s t u : State) → Near s t → Near t u → Near s u
near_then s t u n m = record {
  places = m.places ∙ n.places;
  keys = λ r k e. m.keys r k e ∙ n.keys r k e;
  scores = λ h e. m.scores h e ∙ n.scores h e;
}

pub near_settled : (xs : List Step) (s : State) → works xs ≡ true → Near s (settled xs s)
near_settled xs s k = record {
  places = settled_places xs s;
  keys = λ r n e. ap (λ f. f r n) (settled_keys xs s);
  scores = λ h e. settled_beside xs s h k e;
}

-- a scratch score is written, and no other
score_apart : (f : Text → Option ℤ) (g : Text) (z : ℤ) (h : Text) → is_work g ≡ true → is_work h ≡ false → (if bytes_eq g h then Some z else f h) ≡ f h
score_apart f g z h k e = ap (λ b. if b then Some z else f h) (work_apart g h k e)

-- ---- steps that don't end their list, by where they lead

abbrev pub final : List Step → State → State
final [] s = s
final (x ∷ xs) s = final xs (after_step x s)

abbrev pub goes_on : Step → Bool
goes_on (run_act a) = true
goes_on (when cs a) = true
goes_on (stop_when cs) = false

final_run : (xs : List Step) (s : State) → list_all goes_on xs ≡ true → run_steps xs s ≡ flow false (final xs s) (steps_weight xs)
final_run [] s k = refl
final_run (run_act a ∷ xs) s k = ap (more (step_weight (run_act a))) (final_run xs (after_step (run_act a) s) k)
final_run (when cs a ∷ xs) s k = ap (more (step_weight (when cs a))) (final_run xs (after_step (when cs a) s) k)
final_run (stop_when cs ∷ xs) s k = absurd cc

pub final_straight : (xs : List Step) (s : State) → steps_within 0 xs ≡ true → list_all goes_on xs ≡ true → Straight xs s (final xs s)
final_straight xs s w k = record { ready = steps_found 0 xs s zero-le w; ends = final_run xs s k }

-- acts that write scratch scores and scratch keys alone
abbrev pub act_near : Act → Bool
act_near (set_spot (scratch h) z) = is_work h
act_near (increase (scratch h) n) = is_work h
act_near (combine (scratch h) op y) = is_work h
act_near (load_site h p) = is_work h
act_near (keep_site p h) = is_work_key p.store p.name
act_near (set_site p t) = is_work_key p.store p.name
act_near (copy_site p q) = is_work_key p.store p.name
act_near _ = false

abbrev pub step_near : Step → Bool
step_near (run_act a) = act_near a
step_near (when cs a) = act_near a
step_near (stop_when cs) = true

near_none : (s : State) → Near s s
near_none s = record { places = refl; keys = λ r k e. refl; scores = λ h e. refl }

pub near_score : (s : State) (h : Text) (z : ℤ) → is_work h ≡ true → Near s (with_score s h z)
near_score s h z k = record { places = refl; keys = λ r n e. refl; scores = λ g e. score_apart s.scores h z g k e }

same_true : (r q : Store) → same_store r q ≡ true → r ≡ q
same_true in_io in_io e = refl
same_true in_memory in_memory e = refl
same_true in_rest in_rest e = refl
same_true r q e = absurd cc

key_apart : (f : Store → Text → Option Tree) (q : Store) (j : Text) (t : Tree) (r : Store) (k : Text) → is_work_key q j ≡ true → is_work_key r k ≡ false → with_key f q j t r k ≡ f r k
key_apart f q j t r k w e = go (same_store q r && bytes_eq j k) refl
  where
    go : (b : Bool) → same_store q r && bytes_eq j k ≡ b → (if b then Some t else f r k) ≡ f r k
    go true h = absurd (let d : true ≡ false = sym w ∙ ap₂ is_work_key (same_true q r (and_first _ _ h)) ((bytes_eq-Decides j k).0 (and_second (same_store q r) _ h)) ∙ e in cc)
    go false h = refl

pub near_tree : (s : State) (p : Site) (o : Option Tree) → is_work_key p.store p.name ≡ true → Near s (with_tree s p o)
near_tree s p None k = near_none s
near_tree s p (Some t) k = record { places = refl; keys = λ r n e. key_apart s.keys p.store p.name t r n k e; scores = λ g e. refl }

near_combined : (s : State) (h : Text) (op : Op) (o : Option ℤ) → is_work h ≡ true → Near s (combined s (scratch h) op o)
near_combined s h op None k = near_none s
near_combined s h op (Some b) k = go (operate op (or_zero (s.scores h)) b)
  where
    go : (r : Option ℤ) → Near s (with_some_spot s (scratch h) r)
    go None = near_none s
    go (Some z) = near_score s h z k

near_copied : (s : State) (p : Site) (o : Option Tree) → is_work_key p.store p.name ≡ true → Near s (with_copy s p o)
near_copied s p None k = near_none s
near_copied s p (Some t) k = near_tree s p _ k

near_act : (a : Act) (s : State) → act_near a ≡ true → Near s (after_act a s)
near_act (set_spot (scratch h) z) s k = near_score s h z k
near_act (increase (scratch h) n) s k = near_score s h _ k
near_act (combine (scratch h) op y) s k = near_combined s h op (read s y) k
near_act (load_site h p) s k = near_score s h _ k
near_act (keep_site p h) s k = near_tree s p _ k
near_act (set_site p t) s k = near_tree s p _ k
near_act (copy_site p q) s k = near_copied s p (selected s q) k
near_act _ s k = absurd cc

near_step : (x : Step) (s : State) → step_near x ≡ true → Near s (after_step x s)
near_step (run_act a) s k = near_act a s k
near_step (when cs a) s k = go (conds_hold cs s)
  where
    go : (b : Bool) → Near s (if b then after_act a s else s)
    go true = near_act a s k
    go false = near_none s
near_step (stop_when cs) s k = near_none s

pub final_near : (xs : List Step) (s : State) → list_all step_near xs ≡ true → Near s (final xs s)
final_near [] s k = near_none s
final_near (x ∷ xs) s k = near_then s (after_step x s) (final xs (after_step x s)) (near_step x s (and_first _ _ k)) (final_near xs (after_step x s) (and_second (step_near x) _ k))

-- ---- helpers

pub leads_call : (f : Text) (xs : Items) (s t : State) → Leads xs s t → Leads (first (call_item f xs) no_more) s t
leads_call f xs s t l = leads_first (call_item f xs) s no_more t t (1 + l.used) l.ready (ap (called 1) l.ends) (leads_none t)

pub leads_fill : (f : Text) (p : Site) (xs : List OpenStep) (ys : Items) (s t u : State) → HasSomeInts (selected s p) (steps_names xs) → Straight (filled_steps p xs s) s t → Leads ys t u → Leads (first (fill_item f p xs) ys) s u
leads_fill f p xs ys s t u h g l = leads_first (fill_item f p xs) s ys t u (1 + steps_weight (filled_steps p xs s)) (h, g.ready) (ap (called 1) g.ends) l

-- ---- routines on two numbers

-- items that make of the numbers in `#a` and `#b` one in this score, where constants and tables stand (those of bytes if
-- so asked), and leave all but scratch as it is
pub record Comes (bytes : Bool) (xs : Items) (h : Text) (x y z : ℤ) : Type 0 where
  pub on : (s : State) → Standing bytes s → (t : State) × Leads xs (with_two s x y) t × Near (with_two s x y) t × (t.scores h ≡ Some z)

-- the same of the number in `#a` alone
pub record ComesOne (xs : Items) (h : Text) (x z : ℤ) : Type 0 where
  pub on : (s : State) → (t : State) × Leads xs (with_one s x) t × Near (with_one s x) t × (t.scores h ≡ Some z)

near_one : (s : State) (x : ℤ) → Near s (with_one s x)
near_one s x = near_score s (codes "#a") x refl

pub near_two : (s : State) (x y : ℤ) → Near s (with_two s x y)
near_two s x y = near_then s (with_one s x) (with_two s x y) (near_one s x) (near_score (with_one s x) (codes "#b") y refl)

-- what stands, stands behind them
pub near_standing : {bytes : Bool} (s t : State) → Near s t → Standing bytes s → Standing bytes t
near_standing s t n p = standing_beside s t n.scores n.keys p

-- a place gets the result
kept : (t : State) (r : ℕ) (h : Text) (z : ℤ) → r < length t.places → t.scores h ≡ Some z → Leads (one_step (keeps r h) no_more) t (with_place t r z)
kept t r h z l e =
    leads_first (step_item (keeps r h)) t no_more (with_place t r z) (with_place t r z) (step_weight (keeps r h)) l
    (ap (λ o. flow false (with_kept t r o) (step_weight (keeps r h))) e) (leads_none (with_place t r z))

given : (xs : Items) (s t : State) (r : ℕ) (z : ℤ) → Near s t → Leads xs s (with_place t r z) → Gives xs s r (z ∷ [])
given xs s t r z near all = record {
  ready = all.ready;
  state = with_place t r z;
  used = all.used;
  ends = all.ends;
  replaced = record { places = ap (λ ps. slice_set ps r z) near.places; keys = near.keys; scores = λ g k e. near.scores g e };
}

one_gives : (xs : Items) (h : Text) (a r : ℕ) (s : State) (z : ℤ) → ComesOne xs h (place_at s a) z → a < length s.places → r < length s.places → Gives (of_one a r xs h) s r (z ∷ [])
one_gives xs h a r s z c la lr =
    let one : State = with_one s (place_at s a) in
    let n = c.on s in
    let t : State = n.0 in
    let near : Near s t = near_then s one t (near_one s (place_at s a)) n.2 in
    given (of_one a r xs h) s t r z near
    (leads_first (step_item (loads (codes "#a") a)) s (join xs (one_step (keeps r h) no_more)) one (with_place t r z) (step_weight (loads (codes "#a") a)) la refl
    (leads_join xs (one_step (keeps r h) no_more) one t (with_place t r z) n.1 (kept t r h z (subst (λ ps. r < length ps) (sym near.places) lr) n.3)))

pub one_performs : (xs : Items) (h : Text) (f : ℕ → ℕ) → ((m : ℕ) → m < 4294967296 → ComesOne xs h (score m) (score (f m)))
    → (a r : ℕ) (s : State) (x : ℤ) (o : Answer) → a < length s.places → r < length s.places → place_at s a ≡ x → is_int x ≡ true
    → Some (answers.Value (values.I32 (score (f (cast_unsigned w32 x))))) ≡ Some o → Performs (of_one a r xs h) s r (outcome_of o)
one_performs xs h f makes a r s x o la lr ex ix e =
    let c : ComesOne xs h x (score (f (cast_unsigned w32 x))) = by_word (λ m p. ComesOne xs h p (score (f m))) makes x ix in
    subst (λ q. Performs (of_one a r xs h) s r (outcome_of q)) (same_Some _ _ e)
    (one_gives xs h a r s (score (f (cast_unsigned w32 x))) (subst (λ p. ComesOne xs h p (score (f (cast_unsigned w32 x)))) (sym ex) c) la lr)

two_give : {bytes : Bool} (xs : Items) (h : Text) (a b r : ℕ) (s : State) (z : ℤ) → Standing bytes s → Comes bytes xs h (place_at s a) (place_at s b) z → a < length s.places → b < length s.places → r < length s.places → Gives (of_two a b r xs h) s r (z ∷ [])
two_give xs h a b r s z st c la lb lr =
    let two : State = with_two s (place_at s a) (place_at s b) in
    let n = c.on s st in
    let t : State = n.0 in
    let near : Near s t = near_then s two t (near_two s (place_at s a) (place_at s b)) n.2 in
    given (of_two a b r xs h) s t r z near
    (leads_first (step_item (loads (codes "#a") a)) s (one_step (loads (codes "#b") b) (join xs (one_step (keeps r h) no_more))) (with_one s (place_at s a)) (with_place t r z) (step_weight (loads (codes "#a") a)) la refl
    (leads_first (step_item (loads (codes "#b") b)) (with_one s (place_at s a)) (join xs (one_step (keeps r h) no_more)) two (with_place t r z) (step_weight (loads (codes "#b") b)) lb refl
    (leads_join xs (one_step (keeps r h) no_more) two t (with_place t r z) n.1 (kept t r h z (subst (λ ps. r < length ps) (sym near.places) lr) n.3))))

pub two_performs : {bytes : Bool} (xs : Items) (h : Text) (f : ℕ → ℕ → ℕ) → ((m n : ℕ) → m < 4294967296 → n < 4294967296 → Comes bytes xs h (score m) (score n) (score (f m n)))
    → (a b r : ℕ) (s : State) (x y : ℤ) (o : Answer) → Standing bytes s → a < length s.places → b < length s.places → r < length s.places → place_at s a ≡ x → place_at s b ≡ y → is_int x ≡ true → is_int y ≡ true
    → Some (answers.Value (values.I32 (score (f (cast_unsigned w32 x) (cast_unsigned w32 y))))) ≡ Some o → Performs (of_two a b r xs h) s r (outcome_of o)
two_performs {bytes} xs h f makes a b r s x y o st la lb lr ex ey ix iy e =
    let z : ℤ = score (f (cast_unsigned w32 x) (cast_unsigned w32 y)) in
    let c : Comes bytes xs h x y (score (f (cast_unsigned w32 x) (cast_unsigned w32 y))) =
    by_word (λ n q. Comes bytes xs h x q (score (f (cast_unsigned w32 x) n)))
    (λ n hn. by_word (λ m p. Comes bytes xs h p (score n) (score (f m n))) (λ m hm. makes m n hm hn) x ix) y iy in
    subst (λ q. Performs (of_two a b r xs h) s r (outcome_of q)) (same_Some _ _ e)
    (two_give xs h a b r s z st (subst (λ p. Comes bytes xs h p (place_at s b) z) (sym ex) (subst (λ q. Comes bytes xs h x q z) (sym ey) c)) la lb lr)
