-- The ints of globals in the public storage, a list for each: one int is read, and written.
use Rattle.std.proofs.Common.{◌≡◌, ◌≤◌, ℕ, suc, max, List, [], ◌∷◌, length, map, Option, Some, None, option_map, option_and_then, refl, sym, ap, ◌∙◌, arith, ℤ, pos, slice_get, slice_set, if◌then◌else◌}
use Rattle.std.proofs.lemmas.Bool.{lt-ltb}
use Rattle.std.proofs.lemmas.Option.{slice_get-map, slice_get_within}
use Rattle.mc_nbt.specs.Tree.{Tree, int, items, of_items, list_of, place, index_of, item_at, is_of_kind, put_item, put_in, select, exchange, through, set_at, items_depth}
use Rattle.mc_nbt.specs.declared.value.Value.{Value}
use Rattle.mc_nbt.proofs.EditLemmas.{item_child, item_exchange, map_set}
use Rattle.mc_nbt.proofs.TreeLemmas.{of_items-items}
use Rattle.cc_line.specs.Sight.{in_memory, with_key}
use Rattle.cc_line.specs.Key.{key_globals}
use Rattle.cc_line.specs.Routine.{value_ints}
use Rattle.cc_line.specs.State.{State, ints, selected, set_under, within_key, with_tree, with_set}
use Rattle.cc_line.proofs.ActLemmas.{depth_ints, within_is}
use Rattle.cc_body.specs.Storage.{global_site}
use Rattle.cc_simulate.specs.Stored.{global_tree, globals_tree}

-- lists of ints as the key of the globals has them
abbrev pub lists_tree : List (List ℤ) → Tree
lists_tree zss = list_of (map ints zss)

abbrev pub with_lists : State → List (List ℤ) → State
with_lists s zss = record s { keys = with_key s.keys in_memory key_globals (lists_tree zss) }

trees_are : (vs : List Value) → map global_tree vs ≡ map ints (map value_ints vs)
trees_are [] = refl
trees_are (v ∷ vs) = ap (λ (ts : List Tree). global_tree v ∷ ts) (trees_are vs)

pub lists_are : (vs : List Value) → globals_tree vs ≡ lists_tree (map value_ints vs)
lists_are vs = ap list_of (trees_are vs)

-- ---- an element of a list of trees

module _ (ts : List Tree) (x : ℕ) (t : Tree) (e : slice_get ts x ≡ Some t) where
  index_at : index_of (length ts) (pos x) ≡ Some x
  index_at = ap (λ b. if b then Some x else None) (lt-ltb x (length ts) (slice_get_within ts x t e))

  item_is : item_at (of_items (items ts)) (pos x) ≡ Some t
  item_is = item_child (items ts) ts (pos x) x t (of_items-items ts) index_at e

  item_put : (u : Tree) → put_item (of_items (items ts)) (pos x) u ≡ Some (list_of (slice_set ts x u))
  item_put u = item_exchange (items ts) ts ts (pos x) x u (of_items-items ts) index_at refl

-- ---- an int of a list of ints

module _ (zss : List (List ℤ)) (x k : ℕ) (zs : List ℤ) (e : slice_get zss x ≡ Some zs) where
  list_there : slice_get (map ints zss) x ≡ Some (ints zs)
  list_there = slice_get-map ints zss x ∙ ap (option_map ints) e

  int_there : (z : ℤ) → slice_get zs k ≡ Some z → slice_get (map int zs) k ≡ Some (int z)
  int_there z f = slice_get-map int zs k ∙ ap (option_map int) f

  int_selected : (z : ℤ) → slice_get zs k ≡ Some z → select (lists_tree zss) (place (pos x) ∷ (place (pos k) ∷ [])) ≡ Some (int z)
  int_selected z f =
      ap (option_and_then (λ u. select u (place (pos k) ∷ []))) (item_is (map ints zss) x (ints zs) list_there)
      ∙ ap (option_and_then (λ u. select u [])) (item_is (map int zs) k (int z) (int_there z f))

  int_last : (y z : ℤ) → slice_get zs k ≡ Some y → put_in (of_items (items (map int zs))) (pos k) (int z) ≡ Some (ints (slice_set zs k z))
  int_last y z f =
      ap (λ (o : Option Tree). if is_of_kind o (int z) then put_item (of_items (items (map int zs))) (pos k) (int z) else None) (item_is (map int zs) k (int y) (int_there y f))
      ∙ (item_put (map int zs) k (int y) (int_there y f) (int z) ∙ ap (λ (ts : List Tree). Some (list_of ts)) (sym (map_set int zs k z)))

  int_put : (y z : ℤ) → slice_get zs k ≡ Some y → set_at (place (pos x)) (place (pos k) ∷ []) (int z) (lists_tree zss) ≡ Some (lists_tree (slice_set zss x (slice_set zs k z)))
  int_put y z f =
      ap (through (lists_tree zss) (place (pos x)) (set_at (place (pos k)) [] (int z))) (item_is (map ints zss) x (ints zs) list_there)
      ∙ (ap (option_and_then (exchange (lists_tree zss) (place (pos x)))) (int_last y z f)
      ∙ (item_put (map ints zss) x (ints zs) list_there (ints (slice_set zs k z)) ∙ ap (λ (ts : List Tree). Some (list_of ts)) (sym (map_set ints zss x (slice_set zs k z)))))

lists_low : (zss : List (List ℤ)) → items_depth (items (map ints zss)) ≤ 2
lists_low [] = let r : 0 ≤ 2 = omega arith in r
lists_low (zs ∷ zss) =
    let a : items_depth (items (map int zs)) ≤ 1 = depth_ints zs in
    let b : items_depth (items (map ints zss)) ≤ 2 = lists_low zss in
    let r : max (suc (items_depth (items (map int zs)))) (items_depth (items (map ints zss))) ≤ 2 = omega arith in
    r

-- ---- in a state

pub lists_within : (zss : List (List ℤ)) → within_key (lists_tree zss) ≡ Some (lists_tree zss)
lists_within zss =
    let low : items_depth (items (map ints zss)) ≤ 2 = lists_low zss in
    let shallow : suc (items_depth (items (map ints zss))) ≤ 63 = omega arith in
    within_is (lists_tree zss) shallow

module _ (s : State) (zss : List (List ℤ)) (x k : ℕ) (zs : List ℤ) (has : s.keys in_memory key_globals ≡ Some (lists_tree zss)) (e : slice_get zss x ≡ Some zs) where
  pub int_read : (z : ℤ) → slice_get zs k ≡ Some z → selected s (global_site x k) ≡ Some (int z)
  int_read z f = ap (option_and_then (λ u. select u (place (pos x) ∷ (place (pos k) ∷ [])))) has ∙ int_selected zss x k zs e z f

  pub int_written : (y z : ℤ) → slice_get zs k ≡ Some y → with_set s (global_site x k) (int z) ≡ with_lists s (slice_set zss x (slice_set zs k z))
  int_written y z f =
      let new : List (List ℤ) = slice_set zss x (slice_set zs k z) in
      ap (λ (o : Option Tree). with_tree s (global_site x k) (option_and_then within_key (set_under o (place (pos x) ∷ (place (pos k) ∷ [])) (int z)))) has
      ∙ (ap (λ (o : Option Tree). with_tree s (global_site x k) (option_and_then within_key o)) (int_put zss x k zs e y z f)
      ∙ ap (λ (o : Option Tree). with_tree s (global_site x k) o) (lists_within new))
