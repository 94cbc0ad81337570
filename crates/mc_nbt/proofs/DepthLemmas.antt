-- How deep a list of ints is.
use Rattle.std.proofs.Common.{◌≡◌, ℕ, List, [], ◌∷◌, ap, ◌∙◌, map, length, arith, ◌≤◌}
use Rattle.std.specs.Prelude.{ℤ, nat_eq, nat_lt, ◌&&◌}
use Rattle.std.proofs.lemmas.Bool.Decides.{nat_tests}
use Rattle.mc_nbt.specs.Tree.{items, int, items_depth}

ints_depth : (zs : List ℤ) → items_depth (items (map int zs)) ≤ 1
ints_depth [] = omega arith
ints_depth (z ∷ zs) = let a = ints_depth zs in omega arith

pub ints_deep : (zs : List ℤ) (n : ℕ) → nat_lt n (items_depth (items (map int zs))) ≡ (nat_eq n 0 && nat_lt 0 (length zs))
ints_deep [] n = grind (arith, nat_tests)
ints_deep (z ∷ zs) n = let a = ints_depth zs in let e : items_depth (items (map int (z ∷ zs))) ≡ 1 = omega arith in ap (nat_lt n) e ∙ grind (arith, nat_tests)
