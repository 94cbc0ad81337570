-- Ints in trees, read back.
use Rattle.std.proofs.Common.{◌≡◌, ℤ, List, [], ◌∷◌, map, refl, ap, ◌∙◌, rules}
use Rattle.mc_nbt.specs.Tree.{int}
use Rattle.mc_nbt.specs.View.{view}
use Rattle.mc_nbt.specs.declared.tree.Nbt.TheVariants as code
use Rattle.mc_nbt.specs.declared.tree.NbtList.{the_lemmas}
use Rattle.mc_nbt.proofs.TreeLemmas.{of_items-items}
use Rattle.cc_line.specs.State.{ints}
use Rattle.pk_entries.specs.steps.Reading.{int_of, ints_of}

pub ints_back : (zs : List ℤ) → map int_of (map int zs) ≡ zs
ints_back [] = refl
ints_back (z ∷ zs) = ap (λ l. z ∷ l) (ints_back zs)

pub list_back : (zs : List ℤ) → ints_of (ints zs) ≡ zs
list_back zs = ap (map int_of) (of_items-items (map int zs)) ∙ ints_back zs

pub int_seen : (z : ℤ) → view (code.Int z) ≡ int z
int_seen z = search (rules, the_lemmas)
