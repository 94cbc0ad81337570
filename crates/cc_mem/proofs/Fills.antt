-- Helpers that a compound fills, steps one by one, and what a write at a path leaves.
use Rattle.std.proofs.Common.{◌≡◌, ℕ, ◌+◌, ◌<◌, List, ◌∷◌, Option, Some, true, false, refl, sym, ap, ◌∙◌, subst}
use Rattle.std.specs.Prelude.{ℤ, pos, ◌&&◌, if◌then◌else◌}
use Rattle.std.specs.Int.{w32}
use Rattle.std.specs.Str.{bytes_eq}
use Rattle.std.proofs.lemmas.Bool.{or_parts}
use Rattle.std.proofs.lemmas.Int.{int_wrap_fits}
use Rattle.mc_nbt.specs.Tree.{Tree}
use Rattle.mc_cmd.specs.Form.{Text}
use Rattle.mc_cmd.specs.Command.{Op, assign}
use Rattle.mc_cmd.specs.World.{wrapped, or_zero, operate}
use Rattle.cc_line.specs.Sight.{Store, in_io, in_memory, in_rest, same_store}
use Rattle.cc_line.specs.Place.{scratch}
use Rattle.cc_line.specs.Key.{key_table, key_choice, is_work_key}
use Rattle.cc_line.specs.State.{State, Site, selected, with_score}
use Rattle.cc_line.specs.Step.{Act, combine, Cond, Step, run_act, when, more, step_weight, steps_weight, with_some_spot, combined, after_act, conds_hold, run_steps, ActReady, CondsReady, Ready}
use Rattle.cc_line.specs.Core.{Straight}
use Rattle.cc_line.specs.OpenStep.{OpenStep, steps_with, steps_names, HasSomeInts, ints_in}
use Rattle.cc_line.specs.Item.{fill_item, no_more, first, called}
use Rattle.cc_line.proofs.KeyLemmas.{Written}
use Rattle.cc_line.proofs.RunLemmas.{Leads, leads_none, leads_first}
use Rattle.cc_mem.proofs.Near.{Near}

-- ---- steps one by one

pub straight_act : (a : Act) (xs : List Step) (s t u : State) → ActReady a s → after_act a s ≡ t → Straight xs t u → Straight (run_act a ∷ xs) s u
straight_act a xs s t u r e d = record {
  ready = (r, λ q. subst (Ready xs) (sym e) d.ready);
  ends = ap (λ w. more (step_weight (run_act a)) (run_steps xs w)) e ∙ ap (more (step_weight (run_act a))) d.ends;
}

pub straight_taken : (cs : List Cond) (a : Act) (xs : List Step) (s t u : State) → CondsReady cs s → ActReady a s → conds_hold cs s ≡ true → after_act a s ≡ t → Straight xs t u → Straight (when cs a ∷ xs) s u
straight_taken cs a xs s t u c r h e d =
    let q : (if conds_hold cs s then after_act a s else s) ≡ t = ap (λ b. if b then after_act a s else s) h ∙ e in
    record {
      ready = ((c, λ k. r), λ k. subst (Ready xs) (sym q) d.ready);
      ends = ap (λ w. more (step_weight (when cs a)) (run_steps xs w)) q ∙ ap (more (step_weight (when cs a))) d.ends;
    }

pub straight_left : (cs : List Cond) (a : Act) (xs : List Step) (s u : State) → CondsReady cs s → conds_hold cs s ≡ false → Straight xs s u → Straight (when cs a ∷ xs) s u
straight_left cs a xs s u c h d =
    let q : (if conds_hold cs s then after_act a s else s) ≡ s = ap (λ b. if b then after_act a s else s) h in
    record {
      ready = ((c, λ k. let y : true ≡ false = sym k ∙ h in absurd cc), λ k. subst (Ready xs) (sym q) d.ready);
      ends = ap (λ w. more (step_weight (when cs a)) (run_steps xs w)) q ∙ ap (more (step_weight (when cs a))) d.ends;
    }

-- an operation of two scores that are set
pub combine_is : (s : State) (h g : Text) (op : Op) (a b z : ℤ) → s.scores h ≡ Some a → s.scores g ≡ Some b → operate op a b ≡ Some z
    → after_act (combine (scratch h) op (scratch g)) s ≡ with_score s h z
combine_is s h g op a b z ea eb ez =
    ap (combined s (scratch h) op) eb
    ∙ ap (λ o. with_some_spot s (scratch h) (operate op (or_zero o) b)) ea
    ∙ ap (with_some_spot s (scratch h)) ez

-- one score as another
pub assign_is : (s : State) (h g : Text) (b : ℤ) → s.scores g ≡ Some b → after_act (combine (scratch h) assign (scratch g)) s ≡ with_score s h b
assign_is s h g b e = ap (combined s (scratch h) assign) e

-- a score that doesn't wrap
pub unwrapped : (n : ℕ) → n < 2147483648 → wrapped (pos n) ≡ pos n
unwrapped n l = int_wrap_fits w32 (pos n) (record { sfits = l })

-- ---- a helper that is filled

pub fill_leads : (f : Text) (p : Site) (xs : List OpenStep) (s t : State) (o : Option Tree) → selected s p ≡ o → HasSomeInts o (steps_names xs)
    → Straight (steps_with (ints_in o) xs) s t → Leads (first (fill_item f p xs) no_more) s t
fill_leads f p xs s t o e g d =
    leads_first (fill_item f p xs) s no_more t t (1 + steps_weight (steps_with (ints_in o) xs))
    (subst (λ q. HasSomeInts q (steps_names xs) × Ready (steps_with (ints_in q) xs) s) (sym e) (g, d.ready))
    (ap (λ q. called 1 (run_steps (steps_with (ints_in q) xs) s)) e ∙ ap (called 1) d.ends)
    (leads_none t)

-- ---- a tree that is written under the key that tells where

not_choice : (r : Store) (k : Text) → is_work_key r k ≡ false → same_store in_rest r && bytes_eq key_choice k ≡ false
not_choice in_io k e = refl
not_choice in_memory k e = refl
not_choice in_rest k e = (or_parts (bytes_eq key_table k) (bytes_eq key_choice k) e).1

pub near_choice : (hs : List Text) (u : Tree) (s t : State) → Written in_rest key_choice u s t → Near hs s t
near_choice hs u s t w = record {
  places = w.places;
  keys = λ r k e. w.others r k (not_choice r k e);
  scores = λ h e. ap (λ f. f h) w.scores;
}
