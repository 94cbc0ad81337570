-- Which leaves name a cut of a function, and that no other name does.
use Rattle.std.proofs.Common.{◌≡◌, ℕ, Option, Some, None, Bool, true, false, refl, ap, ◌∙◌}
use Rattle.std.specs.Prelude.{if◌then◌else◌, ◌&&◌, nat_eq}
use Rattle.std.proofs.lemmas.Bool.{eq-eqb}
use Rattle.mc_nbt.specs.Tree.{Tree, tree_same, list, Items}
use Rattle.mc_nbt.proofs.TreeLemmas.{tree_same_sound}
use Rattle.cc_line.specs.declared.leaf.Leaf.{Leaf}
use Rattle.cc_line.specs.declared.leaf.Leaf.TheVariants as leaves
use Rattle.cc_line.specs.declared.leaf.PieceId.{PieceId}
use Rattle.cc_line.specs.declared.leaf.PieceId.TheVariants as ids
use Rattle.cc_line.specs.declared.table.Table.{Table}
use Rattle.cc_line.specs.declared.table.Table.TheVariants as tables
use Rattle.cc_line.specs.Key.{body_piece, group_init, group_shared, id_tree}
use Rattle.cc_line.specs.Table.{table_tree}
use Rattle.cc_line.specs.View.{leaf_tree, piece_view}
use Rattle.cc_passes.specs.Bound.{told_number}
use Rattle.cc_tails.specs.Tails.{cut_told}

nat_self : (n : ℕ) → nat_eq n n ≡ true
nat_self n = eq-eqb n n refl

-- a table is a list
list_unnamed : (func : ℕ) (ts : Items) → cut_told func (list ts) ≡ None
unfolding cut_told
list_unnamed func ts = refl

table_unnamed : (func : ℕ) (t : Table) → cut_told func (table_tree t) ≡ None
unfolding table_tree
table_unnamed func tables.LowByte = list_unnamed func _
table_unnamed func tables.HighByte = list_unnamed func _
table_unnamed func tables.ByteAnd = list_unnamed func _
table_unnamed func tables.RaisedAnd = list_unnamed func _
table_unnamed func tables.Ones = list_unnamed func _
table_unnamed func tables.ShiftLeft = list_unnamed func _
table_unnamed func tables.ShiftRightSigned = list_unnamed func _
table_unnamed func tables.ShiftRight = list_unnamed func _
table_unnamed func tables.RotateLeft = list_unnamed func _
table_unnamed func tables.RotateRight = list_unnamed func _

-- the name of a piece of a body
body_told : (func f j : ℕ) → cut_told func (id_tree (body_piece f j)) ≡ (if nat_eq f func then Some j else None)
unfolding cut_told
body_told func f j = ap (λ b. if b then Some j else None) (ap (λ c. nat_eq f func && (c && true)) (nat_self j) ∙ and_true (nat_eq f func))
  where
    and_true : (b : Bool) → b && true ≡ b
    and_true true = refl
    and_true false = refl

-- the number that a piece's name tells, by the leaf
abbrev pub piece_number : ℕ → PieceId → Option ℕ
piece_number func (ids.Body f j) = if nat_eq f func then Some j else None
piece_number func (ids.Init j) = if nat_eq group_init func then Some j else None
piece_number func (ids.Shared j) = if nat_eq group_shared func then Some j else None
piece_number func (ids.End w) = None

abbrev pub leaf_number : ℕ → Leaf → Option ℕ
leaf_number func (leaves.Piece i) = piece_number func i
leaf_number func _ = None

pub piece_told : (func : ℕ) (i : PieceId) → cut_told func (id_tree (piece_view i)) ≡ piece_number func i
unfolding cut_told
piece_told func (ids.Body f j) = body_told func f j
piece_told func (ids.Init j) = body_told func group_init j
piece_told func (ids.Shared j) = body_told func group_shared j
piece_told func (ids.End w) = refl

pub leaf_told : (func : ℕ) (leaf : Leaf) → cut_told func (leaf_tree leaf) ≡ leaf_number func leaf
unfolding cut_told
leaf_told func (leaves.Int z) = refl
leaf_told func leaves.EmptyList = refl
leaf_told func leaves.EmptyCompound = refl
leaf_told func (leaves.Zeros n) = refl
leaf_told func (leaves.Piece i) = piece_told func i
leaf_told func (leaves.Waiting i n) = refl
leaf_told func (leaves.Table t) = table_unnamed func t

-- what a name tells: a tree of a number is the name of the cut that has it
pub told_is : (func j : ℕ) (t : Tree) → cut_told func t ≡ Some j → t ≡ id_tree (body_piece func j)
unfolding cut_told
told_is func j t e = by (tree_same t (id_tree (body_piece func (told_number t)))) refl e
  where
    by : (b : Bool) → tree_same t (id_tree (body_piece func (told_number t))) ≡ b → (if b then Some (told_number t) else None) ≡ Some j → t ≡ id_tree (body_piece func j)
    by true same k =
        let n : told_number t ≡ j = cc in
        tree_same_sound t (id_tree (body_piece func (told_number t))) same ∙ ap (λ i. id_tree (body_piece func i)) n
    by false same k = absurd cc
