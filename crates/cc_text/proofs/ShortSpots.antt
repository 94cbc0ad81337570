-- Cores on spots and places are short where they are on their own.
use Rattle.std.proofs.Common.{◌≡◌, ℕ, List, [], ◌∷◌, ◌++◌, Bool, true, false, refl}
use Rattle.std.specs.Prelude.{codes, if◌then◌else◌, nat_lt, nat_eq}
use Rattle.mc_cmd.specs.Form.{Text}
use Rattle.cc_line.specs.Core.{spot_of, fetch, work_spot, bring, bring_back, on_two, on_one}
use Rattle.cc_line.specs.Item.{steps_items}
use Rattle.cc_line.specs.Place.{score_places, Spot, scratch, placed}
use Rattle.cc_text.specs.Short.{items_short, steps_short}
use Rattle.cc_line.specs.Step.{copy_place, load_place, Step, run_act}
use Rattle.cc_text.proofs.ShortItems.{short_both, short_steps}

pub fetch_short : (i : ℕ) (h : Text) → steps_short (fetch i h) ≡ true
fetch_short i h = go (nat_lt i score_places)
  where
    go : (b : Bool) → steps_short (if b then [] else run_act (load_place h i) ∷ []) ≡ true
    go true = refl
    go false = refl

pub bring_short : (a : ℕ) (x : Spot) → steps_short (bring a x) ≡ true
bring_short a (scratch h) = refl
bring_short a (placed r) = go (nat_eq a r)
  where
    go : (b : Bool) → steps_short (if b then [] else run_act (copy_place r a) ∷ []) ≡ true
    go true = refl
    go false = refl

pub back_short : (r : ℕ) (x : Spot) → steps_short (bring_back r x) ≡ true
back_short r (scratch h) = refl
back_short r (placed i) = refl

pub two_short : (core : Spot → Spot → List Step) (a b r : ℕ) → ((x y : Spot) → steps_short (core x y) ≡ true) → items_short (steps_items (on_two a b r core)) ≡ true
two_short core a b r h =
    let x : Spot = work_spot b r in
    let y : Spot = spot_of b (codes "#b") in
    short_steps (on_two a b r core)
    (short_both (bring a x) (fetch b (codes "#b") ++ (core x y ++ bring_back r x)) (bring_short a x)
    (short_both (fetch b (codes "#b")) (core x y ++ bring_back r x) (fetch_short b (codes "#b")) (short_both (core x y) (bring_back r x) (h x y) (back_short r x))))

pub one_short : (core : Spot → List Step) (a r : ℕ) → ((x : Spot) → steps_short (core x) ≡ true) → items_short (steps_items (on_one a r core)) ≡ true
one_short core a r h =
    let x : Spot = spot_of r (codes "#a") in
    short_steps (on_one a r core) (short_both (bring a x) (core x ++ bring_back r x) (bring_short a x) (short_both (core x) (bring_back r x) (h x) (back_short r x)))
