-- Steps, one at a time, and lines that a compound fills: where they lead.
use Rattle.std.proofs.Common.{◌≡◌, ℕ, ◌+◌, List, ◌++◌, Some, Bool, true, false, refl, sym, ap, ◌∙◌, subst}
use Rattle.std.specs.Prelude.{ℤ, ◌&&◌, if◌then◌else◌}
use Rattle.std.specs.Str.{bytes_eq}
use Rattle.std.proofs.lemmas.Slice.Eq.{bytes_eq-Decides}
use Rattle.mc_nbt.specs.Tree.{Tree}
use Rattle.mc_nbt.proofs.TestLemmas.{and_first, and_second}
use Rattle.mc_cmd.specs.Form.{Text}
use Rattle.mc_cmd.specs.Command.{Op, assign}
use Rattle.mc_cmd.specs.World.{or_zero, operate}
use Rattle.cc_line.specs.Sight.{Store, in_io, in_memory, in_rest, same_store, with_key}
use Rattle.cc_line.specs.Place.{scratch}
use Rattle.cc_line.specs.State.{State, Site, selected, with_score}
use Rattle.cc_line.specs.Step.{Act, combine, Cond, Step, run_act, when, after_act, conds_hold, combined, with_some_spot}
use Rattle.cc_line.specs.Step.{flow, step_weight, run_steps, ActReady, CondsReady, Ready}
use Rattle.cc_line.specs.OpenStep.{OpenStep, HasSomeInts, steps_names}
use Rattle.cc_line.specs.Item.{step_item, fill_item, Items, first, steps_items, called, filled_steps}
use Rattle.cc_line.proofs.RunLemmas.{Leads, leads_first, leads_join, steps_joined}

-- ---- steps

pub act_leads : (a : Act) (xs : Items) (s t u : State) → ActReady a s → after_act a s ≡ t → Leads xs t u → Leads (first (step_item (run_act a)) xs) s u
act_leads a xs s t u r e l = leads_first (step_item (run_act a)) s xs t u (step_weight (run_act a)) r (ap (λ v. flow false v (step_weight (run_act a))) e) l

-- one whose conditions hold, and one whose conditions don't
pub when_leads : (cs : List Cond) (a : Act) (xs : Items) (s t u : State) → CondsReady cs s → conds_hold cs s ≡ true → ActReady a s → after_act a s ≡ t → Leads xs t u → Leads (first (step_item (when cs a)) xs) s u
when_leads cs a xs s t u c h r e l =
    let k : ℕ = step_weight (when cs a) in
    leads_first (step_item (when cs a)) s xs t u k (c, λ q. r) (ap (λ b. flow false (if b then after_act a s else s) k) h ∙ ap (λ v. flow false v k) e) l

pub unless_leads : (cs : List Cond) (a : Act) (xs : Items) (s u : State) → CondsReady cs s → conds_hold cs s ≡ false → Leads xs s u → Leads (first (step_item (when cs a)) xs) s u
unless_leads cs a xs s u c h l =
    let k : ℕ = step_weight (when cs a) in
    leads_first (step_item (when cs a)) s xs s u k (c, λ q. absurd (let y : true ≡ false = sym q ∙ h in cc)) (ap (λ b. flow false (if b then after_act a s else s) k) h) l

-- an operation of two scores
pub combines : (s : State) (h g : Text) (op : Op) (a b z : ℤ) → s.scores h ≡ Some a → s.scores g ≡ Some b → operate op a b ≡ Some z → after_act (combine (scratch h) op (scratch g)) s ≡ with_score s h z
combines s h g op a b z e f o =
    ap (combined s (scratch h) op) f
    ∙ ap (λ y. with_some_spot s (scratch h) (operate op (or_zero y) b)) e
    ∙ ap (with_some_spot s (scratch h)) o

pub combine_leads : (h g : Text) (op : Op) (a b z : ℤ) (xs : Items) (s u : State) → s.scores h ≡ Some a → s.scores g ≡ Some b → operate op a b ≡ Some z → Leads xs (with_score s h z) u
    → Leads (first (step_item (run_act (combine (scratch h) op (scratch g)))) xs) s u
combine_leads h g op a b z xs s u e f o l = act_leads (combine (scratch h) op (scratch g)) xs s (with_score s h z) u (tt, tt) (combines s h g op a b z e f o) l

pub assign_leads : (h g : Text) (b : ℤ) (xs : Items) (s u : State) → s.scores g ≡ Some b → Leads xs (with_score s h b) u → Leads (first (step_item (run_act (combine (scratch h) assign (scratch g)))) xs) s u
assign_leads h g b xs s u f l = act_leads (combine (scratch h) assign (scratch g)) xs s (with_score s h b) u (tt, tt) (ap (combined s (scratch h) assign) f) l

-- lists of steps, one after the other
pub steps_lead : (xs ys : List Step) (s t u : State) → Leads (steps_items xs) s t → Leads (steps_items ys) t u → Leads (steps_items (xs ++ ys)) s u
steps_lead xs ys s t u f g = subst (λ is. Leads is s u) (sym (steps_joined xs ys)) (leads_join (steps_items xs) (steps_items ys) s t u f g)

-- ---- lines that a compound fills

pub fill_leads : (f : Text) (p : Site) (xs : List OpenStep) (ys : Items) (s t u : State) (k : ℕ) → HasSomeInts (selected s p) (steps_names xs) → Ready (filled_steps p xs s) s → run_steps (filled_steps p xs s) s ≡ flow false t k → Leads ys t u
    → Leads (first (fill_item f p xs) ys) s u
fill_leads f p xs ys s t u k h r e l = leads_first (fill_item f p xs) s ys t u (1 + k) (h, r) (ap (called 1) e) l

-- ---- a key that is written with what it is

same_true : (r q : Store) → same_store r q ≡ true → r ≡ q
same_true in_io in_io e = refl
same_true in_memory in_memory e = refl
same_true in_rest in_rest e = refl
same_true r q e = absurd cc

pub key_kept : (s : State) (r : Store) (k : Text) (t : Tree) → s.keys r k ≡ Some t → (record s { keys = with_key s.keys r k t }) ≡ s
key_kept s r k t e = λ i. record s { keys = λ q. λ j. by q j (same_store r q && bytes_eq k j) refl i }
  where
    by : (q : Store) (j : Text) (b : Bool) → same_store r q && bytes_eq k j ≡ b → (if same_store r q && bytes_eq k j then Some t else s.keys q j) ≡ s.keys q j
    by q j true p =
        ap (λ b. if b then Some t else s.keys q j) p ∙ sym e ∙ ap (λ a. s.keys a k) (same_true r q (and_first _ _ p))
        ∙ ap (s.keys q) ((bytes_eq-Decides k j).0 (and_second (same_store r q) _ p))
    by q j false p = ap (λ b. if b then Some t else s.keys q j) p
