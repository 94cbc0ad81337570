-- What the view of a tree is, once for each way to make one.
use Rattle.std.proofs.Common.{◌≡◌, ℤ, ap, ◌∙◌, map, rules}
use Rattle.std.specs.Prelude.{Vec}
use Rattle.std.specs.declared.alloc.Global.{Global}
use Rattle.mc_nbt.specs.Tree.{Tree, items, of_items, fields, of_fields}
use Rattle.mc_nbt.specs.Tree as tree
use Rattle.mc_nbt.proofs.TreeLemmas.{of_items-items, of_fields-fields}
use Rattle.mc_nbt.specs.View.{view, entry, map_view, list_view}
use Rattle.mc_nbt.specs.declared.tree.Nbt.{Nbt}
use Rattle.mc_nbt.specs.declared.tree.Nbt.TheVariants.{List as ListOf, Compound}
use Rattle.mc_nbt.specs.declared.tree.NbtMap.{NbtMap}
use Rattle.mc_nbt.specs.declared.tree.NbtList.{NbtList, the_lemmas}
use Rattle.mc_nbt.specs.declared.tree.NbtList.TheVariants.{Ints, Trees}

pub list_view-Ints : (v : Vec ℤ Global) → list_view (Ints v) ≡ items (map tree.int v.items)
list_view-Ints v = search (rules, the_lemmas)

pub list_view-Trees : (v : Vec Nbt Global) → list_view (Trees v) ≡ items (map view v.items)
list_view-Trees v = search (rules, the_lemmas)

pub map_view-is : (m : NbtMap) → map_view m ≡ fields (map entry m.entries.items)
map_view-is m = search (rules, the_lemmas)

pub view-List : (l : NbtList) → view (ListOf l) ≡ tree.list (list_view l)
view-List l = search (rules, the_lemmas)

pub view-Compound : (m : NbtMap) → view (Compound m) ≡ tree.compound (map_view m)
view-Compound m = search (rules, the_lemmas)

pub of_items-Ints : (v : Vec ℤ Global) → of_items (list_view (Ints v)) ≡ map tree.int v.items
of_items-Ints v = ap of_items (list_view-Ints v) ∙ of_items-items (map tree.int v.items)

pub of_items-Trees : (v : Vec Nbt Global) → of_items (list_view (Trees v)) ≡ map view v.items
of_items-Trees v = ap of_items (list_view-Trees v) ∙ of_items-items (map view v.items)

pub of_fields-map : (m : NbtMap) → of_fields (map_view m) ≡ map entry m.entries.items
of_fields-map m = ap of_fields (map_view-is m) ∙ of_fields-fields (map entry m.entries.items)

-- a list or a compound, opened
pub ruleset opened = (of_items-Ints, of_items-Trees, of_fields-map)

pub view-Trees : (v : Vec Nbt Global) → view (ListOf (Trees v)) ≡ tree.list_of (map view v.items)
view-Trees v = view-List (Trees v) ∙ ap tree.list (list_view-Trees v)

pub view-Ints : (v : Vec ℤ Global) → view (ListOf (Ints v)) ≡ tree.list_of (map tree.int v.items)
view-Ints v = view-List (Ints v) ∙ ap tree.list (list_view-Ints v)

pub view-Map : (m : NbtMap) → view (Compound m) ≡ tree.compound_of (map entry m.entries.items)
view-Map m = view-Compound m ∙ ap tree.compound (map_view-is m)
