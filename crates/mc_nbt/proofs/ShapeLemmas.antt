-- Lists of ints as trees, and the tests of a tree in the order in which the code makes them.
use Rattle.std.proofs.Common.{◌≡◌, ℕ, List, [], ◌∷◌, Bool, true, false, refl, ap, map, arith}
use Rattle.std.specs.Prelude.{ℤ, not, nat_lt, nat_le, ◌&&◌}
use Rattle.std.specs.List.{list_all}
use Rattle.std.proofs.lemmas.Bool.Decides.{nat_tests}
use Rattle.mc_nbt.specs.Shape.{items_shaped, all_of_kind, is_one_kind}
use Rattle.mc_nbt.specs.Tree.{items, int}
use Rattle.mc_nbt.specs.Word.{is_int}

pub ints_shaped : (zs : List ℤ) → items_shaped (items (map int zs)) ≡ list_all is_int zs
ints_shaped [] = refl
ints_shaped (z ∷ zs) = ap (λ b. is_int z && b) (ints_shaped zs)

ints_of_kind : (zs : List ℤ) → all_of_kind 0 (map int zs) ≡ true
ints_of_kind [] = refl
ints_of_kind (z ∷ zs) = ints_of_kind zs

pub ints_one_kind : (zs : List ℤ) → is_one_kind (map int zs) ≡ true
ints_one_kind [] = refl
ints_one_kind (z ∷ zs) = ints_of_kind zs

pub and_true : (b : Bool) → b && true ≡ b
and_true true = refl
and_true false = refl

pub within : (n m : ℕ) → nat_le n m ≡ not (nat_lt m n)
within n m = grind (arith, nat_tests)

pub both : (a b : Bool) → a && b ≡ b && a
both true true = refl
both true false = refl
both false true = refl
both false false = refl

-- a tree is shaped and not too deep
pub ruleset tree_tests = (within, both)
