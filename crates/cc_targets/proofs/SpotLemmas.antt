-- Spots: what is read at one behind a number that is put at another, and what acts of spots do.
use Rattle.std.proofs.Common.{◌≡◌, ℕ, ◌<◌, length, Option, Some, None, Bool, true, false, refl, sym, ap, ◌∙◌, subst}
use Rattle.std.specs.Prelude.{ℤ, pos, if◌then◌else◌, nat_lt}
use Rattle.std.proofs.lemmas.Bool.{eqb-true, eqb-false, eq-eqb}
use Rattle.std.proofs.lemmas.List.{length-set, get_or-set_same, get_or-set_other}
use Rattle.std.proofs.lemmas.Slice.Eq.{bytes_eq-Decides}
use Rattle.mc_nbt.specs.Tree.{Tree, int, string, list, compound}
use Rattle.mc_cmd.specs.Command.{Op, assign, add, subtract, multiply, divide, remainder, lower, raise, swap}
use Rattle.mc_cmd.specs.World.{or_zero}
use Rattle.cc_line.specs.Place.{score_places, Spot, scratch, placed}
use Rattle.cc_line.specs.State.{State, Site, read, with_spot, with_place, number_at, selected, with_set}
use Rattle.cc_line.specs.Step.{combined, with_kept, with_taken, after_act, SpotReady, ActReady}
use Rattle.cc_unread.specs.Reads.{is_assign}
use Rattle.cc_unread.proofs.Scored.{ActSure, KeptSure}
use Rattle.cc_targets.specs.Move.{same_spot, takes_numbers, set_to, copy_spot, spot_to_site, site_to_spot}

-- ---- the same spot

pub same_is : (x y : Spot) → same_spot x y ≡ true → x ≡ y
same_is (scratch g) (scratch h) e = ap scratch ((bytes_eq-Decides g h).0 e)
same_is (placed i) (placed j) e = ap placed (eqb-true i j e)
same_is (scratch g) (placed j) e = absurd cc
same_is (placed i) (scratch h) e = absurd cc

same_self : (x : Spot) → same_spot x x ≡ true
same_self (scratch h) = (bytes_eq-Decides h h).1 refl
same_self (placed i) = eq-eqb i i refl

pub other_way : (x y : Spot) → same_spot x y ≡ false → same_spot y x ≡ false
other_way x y e = go (same_spot y x) refl
  where
    go : (b : Bool) → same_spot y x ≡ b → b ≡ false
    go false f = refl
    go true f = sym (same_self x) ∙ ap (same_spot x) (sym (same_is y x f)) ∙ e

-- ---- a number at a spot

pub spot_stands : (x : Spot) (s t : State) → length t.places ≡ length s.places → SpotReady x s → SpotReady x t
spot_stands (scratch h) s t e w = tt
spot_stands (placed i) s t e w = subst (λ n. i < n) (sym e) w

pub spot_count : (x : Spot) (z : ℤ) (s : State) → length (with_spot s x z).places ≡ length s.places
spot_count (scratch h) z s = refl
spot_count (placed i) z s = length-set s.places i z

pub spot_keys : (x : Spot) (z : ℤ) (s : State) → (with_spot s x z).keys ≡ s.keys
spot_keys (scratch h) z s = refl
spot_keys (placed i) z s = refl

pub read_own : (x : Spot) (z : ℤ) (s : State) → SpotReady x s → read (with_spot s x z) x ≡ Some z
read_own (scratch h) z s w = ap (λ b. if b then Some z else s.scores h) (same_self (scratch h))
read_own (placed i) z s w = ap (λ (y : ℤ). Some y) (get_or-set_same s.places i z (pos 0) w)

pub read_other : (x y : Spot) (z : ℤ) (s : State) → same_spot x y ≡ false → read (with_spot s x z) y ≡ read s y
read_other (scratch g) (scratch h) z s e = ap (λ b. if b then Some z else s.scores h) e
read_other (scratch g) (placed j) z s e = refl
read_other (placed i) (scratch h) z s e = refl
read_other (placed i) (placed j) z s e = ap (λ (y : ℤ). Some y) (get_or-set_other s.places i j z (pos 0) (λ f. eqb-false i j e (sym f)))

-- ---- acts of spots

-- a spot from a score that may be unset, and from what a path selects
abbrev pub given : State → Spot → Option ℤ → State
given s (scratch h) o = combined s (scratch h) assign o
given s (placed i) o = with_kept s i o

abbrev pub taken : State → Spot → Option Tree → State
taken s (scratch h) o = with_spot s (scratch h) (number_at o)
taken s (placed i) o = with_taken s i o

pub given_some : (x : Spot) (z : ℤ) (s : State) → given s x (Some z) ≡ with_spot s x z
given_some (scratch h) z s = refl
given_some (placed i) z s = refl

pub given_none : (x : Spot) (s : State) → takes_numbers x ≡ true → given s x None ≡ s
given_none (scratch h) s e = refl
given_none (placed i) s e = ap (λ b. if b then s else with_place s i (pos 0)) e

pub taken_score : (i : ℕ) (o : Option Tree) (s : State) → nat_lt i score_places ≡ true → with_taken s i o ≡ with_place s i (number_at o)
taken_score i None s e = ap (λ b. if b then with_place s i (pos 0) else s) e
taken_score i (Some (int z)) s e = refl
taken_score i (Some (string b)) s e = ap (λ c. if c then with_place s i (number_at (Some (string b))) else s) e
taken_score i (Some (list ts)) s e = ap (λ c. if c then with_place s i (number_at (Some (list ts))) else s) e
taken_score i (Some (compound fs)) s e = ap (λ c. if c then with_place s i (number_at (Some (compound fs))) else s) e

pub taken_spot : (x : Spot) (o : Option Tree) (s : State) → takes_numbers x ≡ true → taken s x o ≡ with_spot s x (number_at o)
taken_spot (scratch h) o s e = refl
taken_spot (placed i) o s e = taken_score i o s e

pub set_does : (x : Spot) (z : ℤ) (s : State) → after_act (set_to x z) s ≡ with_spot s x z
set_does (scratch h) z s = refl
set_does (placed i) z s = refl

pub copy_does : (x y : Spot) (s : State) → after_act (copy_spot x y) s ≡ given s x (read s y)
copy_does (scratch g) (scratch h) s = refl
copy_does (scratch g) (placed j) s = refl
copy_does (placed i) (scratch h) s = refl
copy_does (placed i) (placed j) s = refl

pub to_site_does : (p : Site) (x : Spot) (s : State) → after_act (spot_to_site p x) s ≡ with_set s p (int (or_zero (read s x)))
to_site_does p (scratch h) s = refl
to_site_does p (placed i) s = refl

pub from_site_does : (x : Spot) (p : Site) (s : State) → after_act (site_to_spot x p) s ≡ taken s x (selected s p)
from_site_does (scratch h) p s = refl
from_site_does (placed i) p s = refl

-- what they need

pub set_ready : (x : Spot) (z : ℤ) (s : State) → SpotReady x s → ActReady (set_to x z) s
set_ready (scratch h) z s w = w
set_ready (placed i) z s w = w

pub copy_ready : (x y : Spot) (s : State) → SpotReady x s → SpotReady y s → ActReady (copy_spot x y) s
copy_ready (scratch g) (scratch h) s v w = (v, w)
copy_ready (scratch g) (placed j) s v w = w
copy_ready (placed i) (scratch h) s v w = v
copy_ready (placed i) (placed j) s v w = (v, w)

pub to_site_ready : (p : Site) (x : Spot) (s : State) → SpotReady x s → ActReady (spot_to_site p x) s
to_site_ready p (scratch h) s w = tt
to_site_ready p (placed i) s w = w

pub from_site_ready : (x : Spot) (p : Site) (s : State) → SpotReady x s → ActReady (site_to_spot x p) s
from_site_ready (scratch h) p s w = tt
from_site_ready (placed i) p s w = w

-- what they keep is set

pub combine_sure : (x : Spot) (op : Op) (y : Spot) (s : State) → (is_assign op ≡ true → (z : ℤ) × (read s y ≡ Some z)) → KeptSure x op y s
combine_sure (scratch g) op y s f = tt
combine_sure (placed i) op (placed j) s f = tt
combine_sure (placed i) op (scratch h) s f = f

pub copy_sure : (x y : Spot) (s : State) → (z : ℤ) × (read s y ≡ Some z) → ActSure (copy_spot x y) s
copy_sure (scratch g) (scratch h) s f = tt
copy_sure (scratch g) (placed j) s f = tt
copy_sure (placed i) (scratch h) s f = f
copy_sure (placed i) (placed j) s f = tt

pub set_sure : (x : Spot) (z : ℤ) (s : State) → ActSure (set_to x z) s
set_sure (scratch h) z s = tt
set_sure (placed i) z s = tt

pub to_site_sure : (p : Site) (x : Spot) (s : State) → ActSure (spot_to_site p x) s
to_site_sure p (scratch h) s = tt
to_site_sure p (placed i) s = tt

pub from_site_sure : (x : Spot) (p : Site) (s : State) → ActSure (site_to_spot x p) s
from_site_sure (scratch h) p s = tt
from_site_sure (placed i) p s = tt

-- ---- the operation that doesn't look at its target

pub assigns : (op : Op) → is_assign op ≡ true → op ≡ assign
assigns assign e = refl
assigns add e = absurd cc
assigns subtract e = absurd cc
assigns multiply e = absurd cc
assigns divide e = absurd cc
assigns remainder e = absurd cc
assigns lower e = absurd cc
assigns raise e = absurd cc
assigns swap e = absurd cc
