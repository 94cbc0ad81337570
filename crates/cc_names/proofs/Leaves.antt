-- Each leaf may stand under a key.
use Rattle.std.proofs.Common.{◌≡◌, ℕ, ◌≤◌, true, refl, ap, arith, replicate}
use Rattle.std.specs.Prelude.{is_some, pos, map}
use Rattle.mc_nbt.specs.Tree.{depth, int, items, items_depth}
use Rattle.cc_line.specs.declared.leaf.Leaf.{Leaf}
use Rattle.cc_line.specs.declared.leaf.Leaf.TheVariants as leaves
use Rattle.cc_line.specs.declared.leaf.PieceId.{PieceId}
use Rattle.cc_line.specs.declared.leaf.PieceId.TheVariants as ids
use Rattle.cc_line.specs.Key.{id_tree}
use Rattle.cc_line.specs.Running.{bare_entry}
use Rattle.cc_line.specs.State.{ints}
use Rattle.cc_line.specs.View.{leaf_tree, piece_view}
use Rattle.cc_line.proofs.ActLemmas.{depth_ints, within_is}
use Rattle.cc_line.proofs.TableLemmas.{table_fits}
use Rattle.cc_names.specs.Names.{may_stand}

piece_stands : (i : PieceId) → may_stand (id_tree (piece_view i)) ≡ true
unfolding may_stand
piece_stands (ids.Body f j) = refl
piece_stands (ids.Init j) = refl
piece_stands (ids.Shared j) = refl
piece_stands (ids.End w) = refl

entry_stands : (i : PieceId) (n : ℕ) → may_stand (bare_entry (piece_view i) n) ≡ true
unfolding may_stand
entry_stands (ids.Body f j) n = refl
entry_stands (ids.Init j) n = refl
entry_stands (ids.Shared j) n = refl
entry_stands (ids.End w) n = refl

pub leaf_stands : (leaf : Leaf) → may_stand (leaf_tree leaf) ≡ true
unfolding may_stand
leaf_stands (leaves.Int z) = refl
leaf_stands leaves.EmptyList = refl
leaf_stands leaves.EmptyCompound = refl
leaf_stands (leaves.Zeros n) =
    let low : items_depth (items (map int (replicate n (pos 0)))) ≤ 1 = depth_ints (replicate n (pos 0)) in
    ap is_some (within_is (ints (replicate n (pos 0))) (let d : depth (ints (replicate n (pos 0))) ≤ 63 = omega arith in d))
leaf_stands (leaves.Piece i) = piece_stands i
leaf_stands (leaves.Waiting i n) = entry_stands i n
leaf_stands (leaves.Table t) = ap is_some (table_fits t).1
