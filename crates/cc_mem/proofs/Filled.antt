-- Steps one after the other, and helpers that a compound fills: where they lead.
use Rattle.std.proofs.Common.{◌≡◌, ◌≤◌, ℕ, List, [], ◌∷◌, Some, Bool, true, false, refl, sym, ap, ◌∙◌, subst}
use Rattle.std.specs.Prelude.{ℤ, ◌&&◌, if◌then◌else◌, option_and_then}
use Rattle.mc_nbt.specs.Tree.{Tree, int, compound, Fields, depth}
use Rattle.mc_nbt.proofs.TestLemmas.{and_first, and_second}
use Rattle.mc_cmd.specs.Form.{Text}
use Rattle.mc_cmd.specs.Command.{Op, assign}
use Rattle.mc_cmd.specs.World.{or_zero, operate}
use Rattle.cc_line.specs.Sight.{in_memory, in_rest}
use Rattle.cc_line.specs.Place.{scratch}
use Rattle.cc_line.specs.Key.{key_memory, key_filling, is_work, score_window}
use Rattle.cc_line.specs.State.{State, Site, selected, number_at, set_under, within_key, with_score, with_tree, with_set}
use Rattle.cc_line.specs.Step.{load_site, keep_site, combine, Cond, Step, run_act, flow, conds_hold, with_some_spot, combined, after_act, run_steps, CondsReady, Ready}
use Rattle.cc_line.specs.Core.{Straight}
use Rattle.cc_line.specs.OpenStep.{OpenStep, steps_with, steps_names, HasInts, HasSomeInts, ints_in}
use Rattle.cc_line.specs.Item.{fill_item, fill_when, Items, no_more, first, called}
use Rattle.cc_line.proofs.ActLemmas.{within_is}
use Rattle.cc_line.proofs.RunLemmas.{Leads, leads_first, leads_join}
use Rattle.cc_line.proofs.SettleLemmas.{score_beside}
use Rattle.cc_mem.specs.Law.{Spares}
use Rattle.cc_mem.proofs.Near.{At, spares_constants}
use Rattle.cc_mem.proofs.Fills.{straight_act, fill_leads}
use Rattle.cc_mem.proofs.Accesses.{Goes}

-- ---- steps

-- an operation of two scores that are set
pub straight_combine : (h g : Text) (op : Op) (a b z : ℤ) (xs : List Step) (s u : State) → s.scores h ≡ Some a → s.scores g ≡ Some b → operate op a b ≡ Some z
    → Straight xs (with_score s h z) u → Straight (run_act (combine (scratch h) op (scratch g)) ∷ xs) s u
straight_combine h g op a b z xs s u ea eb e f =
    straight_act (combine (scratch h) op (scratch g)) xs s (with_score s h z) u (tt, tt)
    (ap (combined s (scratch h) op) eb ∙ ap (λ o. with_some_spot s (scratch h) (operate op (or_zero o) b)) ea ∙ ap (with_some_spot s (scratch h)) e) f

-- a score as another one
pub straight_assign : (h g : Text) (b : ℤ) (xs : List Step) (s u : State) → s.scores g ≡ Some b
    → Straight xs (with_score s h b) u → Straight (run_act (combine (scratch h) assign (scratch g)) ∷ xs) s u
straight_assign h g b xs s u eb f = straight_act (combine (scratch h) assign (scratch g)) xs s (with_score s h b) u (tt, tt) (ap (combined s (scratch h) assign) eb) f

-- a score from a path
pub straight_load : (h : Text) (p : Site) (z : ℤ) (xs : List Step) (s u : State) → selected s p ≡ Some (int z)
    → Straight xs (with_score s h z) u → Straight (run_act (load_site h p) ∷ xs) s u
straight_load h p z xs s u e f = straight_act (load_site h p) xs s (with_score s h z) u tt (ap (λ o. with_score s h (number_at o)) e) f

-- ---- what a score leaves at a path

pub set_leaves : (s : State) (p : Site) (t u : Tree) → set_under (s.keys p.store p.name) p.parts t ≡ Some u → depth u ≤ 63 → with_set s p t ≡ with_tree s p (Some u)
set_leaves s p t u e l = ap (λ o. with_tree s p (option_and_then within_key o)) e ∙ ap (with_tree s p) (within_is u l)

pub keeps : (s : State) (p : Site) (h : Text) (z : ℤ) (u : Tree) → s.scores h ≡ Some z → set_under (s.keys p.store p.name) p.parts (int z) ≡ Some u → depth u ≤ 63 → after_act (keep_site p h) s ≡ with_tree s p (Some u)
keeps s p h z u e f l = ap (λ o. with_set s p (int (or_zero o))) e ∙ set_leaves s p (int z) u f l

-- ---- helpers that a compound fills

pub fill_leads_before : (f : Text) (p : Site) (xs : List OpenStep) (ys : Items) (s t u : State) (fs : Fields) → selected s p ≡ Some (compound fs) → HasInts fs (steps_names xs)
    → Straight (steps_with (ints_in (Some (compound fs))) xs) s t → Leads ys t u → Leads (first (fill_item f p xs) ys) s u
fill_leads_before f p xs ys s t u fs e h d g = leads_join (first (fill_item f p xs) no_more) ys s t u (fill_leads f p xs s t (Some (compound fs)) e h d) g

pub fill_when_leads : (cs : List Cond) (f : Text) (p : Site) (xs : List OpenStep) (ys : Items) (s t u : State) (fs : Fields) → CondsReady cs s → conds_hold cs s ≡ true → selected s p ≡ Some (compound fs) → HasInts fs (steps_names xs)
    → Straight (steps_with (ints_in (Some (compound fs))) xs) s t → Leads ys t u → Leads (first (fill_when cs f p xs) ys) s u
fill_when_leads cs f p xs ys s t u fs c w e h d g =
    leads_first (fill_when cs f p xs) s ys t u _
    (c, λ q. subst (λ o. HasSomeInts o (steps_names xs) × Ready (steps_with (ints_in o) xs) s) (sym e) (h, d.ready))
    (ap (λ b. if b then called 2 (run_steps (steps_with (ints_in (selected s p)) xs) s) else flow false s 2) w
    ∙ ap (λ o. called 2 (run_steps (steps_with (ints_in o) xs) s)) e ∙ ap (called 2) d.ends) g

pub fill_when_skips : (cs : List Cond) (f : Text) (p : Site) (xs : List OpenStep) (ys : Items) (s u : State) → CondsReady cs s → conds_hold cs s ≡ false → Leads ys s u → Leads (first (fill_when cs f p xs) ys) s u
fill_when_skips cs f p xs ys s u c w g =
    leads_first (fill_when cs f p xs) s ys s u 2
    (c, λ q. absurd (let y : true ≡ false = sym q ∙ w in cc))
    (ap (λ b. if b then called 2 (run_steps (steps_with (ints_in (selected s p)) xs) s) else flow false s 2) w) g

-- ---- what steps on scratch scores leave

-- keys, places and all scores but scratch scores of routines are as they were
pub record Steady (s t : State) : Type 0 where
  pub places : t.places ≡ s.places
  pub keys : t.keys ≡ s.keys
  pub scores : (h : Text) → is_work h ≡ false → t.scores h ≡ s.scores h

pub steady_same : (s : State) → Steady s s
steady_same s = record { places = refl; keys = refl; scores = λ h w. refl }

pub steady_then : (s t u : State) → Steady s t → Steady t u → Steady s u
steady_then s t u f g = record { places = g.places ∙ f.places; keys = g.keys ∙ f.keys; scores = λ h w. g.scores h w ∙ f.scores h w }

pub steady_score : (s : State) (h : Text) (z : ℤ) → is_work h ≡ true → Steady s (with_score s h z)
steady_score s h z k = record { places = refl; keys = refl; scores = λ g w. score_beside s h g z k w }

-- a state with these scores, the first one written last
abbrev pub nest : State → List (Text × ℤ) → State
nest s [] = s
nest s (x ∷ l) = with_score (nest s l) x.0 x.1

abbrev pub all_work : List (Text × ℤ) → Bool
all_work [] = true
all_work (x ∷ l) = is_work x.0 && all_work l

pub steady_nest : (s : State) (l : List (Text × ℤ)) → all_work l ≡ true → Steady s (nest s l)
steady_nest s [] k = steady_same s
steady_nest s (x ∷ l) k = steady_then s (nest s l) (nest s (x ∷ l)) (steady_nest s l (and_second (is_work x.0) _ k)) (steady_score (nest s l) x.0 x.1 (and_first _ _ k))

pub steady_spares : (s t : State) → Steady s t → Spares s t
steady_spares s t n = record { keys = λ r k e. ap (λ f. f r k) n.keys; scores = λ h a b c d. n.scores h b }

-- the memory and its window stand as before
pub steady_goes : (ps : List (List ℕ)) (page : ℕ) (x y : ℤ) (s t : State) → At ps page x y s → Steady s t → Goes ps page x y s t
steady_goes ps page x y s t a n = record {
  at = record {
    pages = ap (λ f. f in_memory key_memory) n.keys ∙ a.pages;
    are_pages = a.are_pages;
    few = a.few;
    constants = spares_constants s t (steady_spares s t n) a.constants;
    stands = a.stands;
    base = n.scores score_window refl ∙ a.base;
    place_int = a.place_int;
    byte_int = a.byte_int;
    filling = ap (λ f. f in_rest key_filling) n.keys ∙ a.filling;
  };
  places = n.places;
  spares = steady_spares s t n;
}
