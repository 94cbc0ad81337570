-- Trees that are ints, and lists of them.
use Rattle.std.proofs.Common.{◌≡◌, ℕ, zero, suc, ◌<◌, List, [], ◌∷◌, length, get_or, map, Option, Some, None, sym, ap, ◌∙◌, arith}
use Rattle.std.proofs.lemmas.List.{length-map}
use Rattle.std.specs.Prelude.{ℤ, Vec, MatchOption, Result, Ok, Err, IfOk}
use Rattle.std.specs.declared.alloc.Global.{Global}
use Rattle.mc_nbt.specs.declared.tree.Nbt.{Nbt}
use Rattle.mc_nbt.specs.declared.tree.NbtMap.{NbtMap}
use Rattle.mc_nbt.specs.Tree.{Tree, Items, int, string, list, compound, items, of_items, fields, of_fields}
use Rattle.mc_nbt.specs.View.{entry, map_view, view}
use Rattle.mc_nbt.proofs.TreeLemmas.{of_items-items}
use Rattle.mc_nbt.proofs.ViewLemmas.{of_fields-map}
use Rattle.cc_line.specs.Running.{an_int}

-- an int is told
pub int_told : (t : Tree) (z : ℤ) → an_int t ≡ Some z → t ≡ int z
int_told (int y) z e = let same : y ≡ z = cc in ap int same
int_told (string s) z e = absurd cc
int_told (list ts) z e = absurd cc
int_told (compound fs) z e = absurd cc

-- where one of the trees is no int, they are none
pub not_ints : (ts : List Nbt) (zs : List ℤ) (i : ℕ) (t : Nbt) → i < length ts → t ≡ get_or ts i t → an_int (view t) ≡ None → map view ts ≡ map int zs → ⊥
not_ints [] zs i t l s n e = omega arith
not_ints (u ∷ us) [] i t l s n e = absurd cc
not_ints (u ∷ us) (z ∷ zs) zero t l s n e =
    let first : view u ≡ int z = cc in
    let none : an_int (int z) ≡ None = sym (ap an_int (ap view s ∙ first)) ∙ n in
    cc
not_ints (u ∷ us) (z ∷ zs) (suc i) t l s n e = not_ints us zs i t (omega arith) s n (cc)

-- a list tells its elements
items_tell : (ts us : List Tree) → items ts ≡ items us → ts ≡ us
items_tell ts us e = sym (of_items-items ts) ∙ ap of_items e ∙ of_items-items us

-- what is told of the elements is told of the list
pub told_of_elements : {E : Type 0} (r : Result (Option (Vec ℤ Global)) E) (ts : List Tree) (l : Items) → l ≡ items ts
    → IfOk r (λ o. MatchOption o ((zs : List ℤ) → ts ≡ map int zs → ⊥) (λ v. ts ≡ map int v.items))
    → IfOk r (λ o. MatchOption o ((zs : List ℤ) → l ≡ items (map int zs) → ⊥) (λ v. l ≡ items (map int v.items)))
told_of_elements (Ok None) ts l e h = λ zs f. h zs (items_tell ts (map int zs) (sym e ∙ f))
told_of_elements (Ok (Some v)) ts l e h = e ∙ ap items h
told_of_elements (Err x) ts l e h = h

-- a compound of one field has one entry
pub one_field : (m : NbtMap) (k : List ℕ) (t : Tree) → map_view m ≡ fields ((k, t) ∷ []) → length m.entries.items ≡ 1
one_field m k t e =
    let same : map entry m.entries.items ≡ (k, t) ∷ [] = sym (of_fields-map m) ∙ ap of_fields e in
    sym (length-map m.entries.items entry) ∙ ap length same
