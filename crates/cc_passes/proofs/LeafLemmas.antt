-- Which leaves name a cut of a function, and that no other name does.
use Rattle.std.proofs.Common.{◌≡◌, ℕ, zero, suc, List, [], ◌∷◌, Option, Some, None, Bool, true, false, refl, sym, ap, ◌∙◌, subst}
use Rattle.std.specs.Prelude.{pos, if◌then◌else◌, ◌&&◌, nat_eq}
use Rattle.std.proofs.lemmas.Bool.{eq-eqb}
use Rattle.mc_nbt.specs.Tree.{Tree, tree_same, list, Items}
use Rattle.mc_nbt.proofs.TreeLemmas.{tree_same_sound}
use Rattle.cc_line.specs.declared.leaf.Leaf.{Leaf}
use Rattle.cc_line.specs.declared.leaf.Leaf.TheVariants as leaves
use Rattle.cc_line.specs.declared.leaf.PieceId.{PieceId}
use Rattle.cc_line.specs.declared.leaf.PieceId.TheVariants as ids
use Rattle.cc_line.specs.declared.table.Table.{Table}
use Rattle.cc_line.specs.declared.table.Table.TheVariants as tables
use Rattle.cc_line.specs.Key.{body_piece, group_init, group_shared, id_tree}
use Rattle.cc_line.specs.Table.{table_tree}
use Rattle.cc_line.specs.View.{leaf_tree, piece_view}
use Rattle.cc_passes.specs.Bound.{height_at, height_named, told_number}

nat_self : (n : ℕ) → nat_eq n n ≡ true
nat_self n = eq-eqb n n refl

-- a table is a list
list_unnamed : (func : ℕ) (heights : List ℕ) (ts : Items) → height_named func heights (list ts) ≡ None
unfolding height_named
list_unnamed func heights ts = refl

table_unnamed : (func : ℕ) (heights : List ℕ) (t : Table) → height_named func heights (table_tree t) ≡ None
unfolding table_tree
table_unnamed func heights tables.LowByte = list_unnamed func heights _
table_unnamed func heights tables.HighByte = list_unnamed func heights _
table_unnamed func heights tables.ByteAnd = list_unnamed func heights _
table_unnamed func heights tables.RaisedAnd = list_unnamed func heights _
table_unnamed func heights tables.Ones = list_unnamed func heights _
table_unnamed func heights tables.ShiftLeft = list_unnamed func heights _
table_unnamed func heights tables.ShiftRightSigned = list_unnamed func heights _
table_unnamed func heights tables.ShiftRight = list_unnamed func heights _
table_unnamed func heights tables.RotateLeft = list_unnamed func heights _
table_unnamed func heights tables.RotateRight = list_unnamed func heights _

-- the name of a piece of a body
body_named : (func : ℕ) (heights : List ℕ) (f j : ℕ) → height_named func heights (id_tree (body_piece f j)) ≡ (if nat_eq f func then height_at heights j else None)
unfolding height_named
body_named func heights f j = ap (λ b. if b then height_at heights j else None) (ap (λ c. nat_eq f func && (c && true)) (nat_self j) ∙ and_true (nat_eq f func))
  where
    and_true : (b : Bool) → b && true ≡ b
    and_true true = refl
    and_true false = refl

-- the height that a piece's name tells, by the leaf
abbrev pub piece_height : ℕ → List ℕ → PieceId → Option ℕ
piece_height func heights (ids.Body f j) = if nat_eq f func then height_at heights j else None
piece_height func heights (ids.Init j) = if nat_eq group_init func then height_at heights j else None
piece_height func heights (ids.Shared j) = if nat_eq group_shared func then height_at heights j else None
piece_height func heights (ids.End w) = None

abbrev pub leaf_height : ℕ → List ℕ → Leaf → Option ℕ
leaf_height func heights (leaves.Piece i) = piece_height func heights i
leaf_height func heights _ = None

pub piece_named : (func : ℕ) (heights : List ℕ) (i : PieceId) → height_named func heights (id_tree (piece_view i)) ≡ piece_height func heights i
unfolding height_named
piece_named func heights (ids.Body f j) = body_named func heights f j
piece_named func heights (ids.Init j) = body_named func heights group_init j
piece_named func heights (ids.Shared j) = body_named func heights group_shared j
piece_named func heights (ids.End w) = refl

pub leaf_named : (func : ℕ) (heights : List ℕ) (leaf : Leaf) → height_named func heights (leaf_tree leaf) ≡ leaf_height func heights leaf
unfolding height_named
leaf_named func heights (leaves.Int z) = refl
leaf_named func heights leaves.EmptyList = refl
leaf_named func heights leaves.EmptyCompound = refl
leaf_named func heights (leaves.Zeros n) = refl
leaf_named func heights (leaves.Piece i) = piece_named func heights i
leaf_named func heights (leaves.Waiting i n) = refl
leaf_named func heights (leaves.Table t) = table_unnamed func heights t

-- ---- what a name tells

-- a tree of a height names the cut of this function that has it
pub record Names (func : ℕ) (heights : List ℕ) (t : Tree) (height : ℕ) : Type 0 where
  pub index : ℕ
  pub is : t ≡ id_tree (body_piece func index)
  pub is_height : height_at heights index ≡ Some height

pub names_cut : (func : ℕ) (heights : List ℕ) (t : Tree) (height : ℕ) → height_named func heights t ≡ Some height → Names func heights t height
unfolding height_named
names_cut func heights t height e = by (tree_same t (id_tree (body_piece func (told_number t)))) refl e
  where
    by : (b : Bool) → tree_same t (id_tree (body_piece func (told_number t))) ≡ b → (if b then height_at heights (told_number t) else None) ≡ Some height → Names func heights t height
    by true same k = record { index = told_number t; is = tree_same_sound t (id_tree (body_piece func (told_number t))) same; is_height = k }
    by false same k = absurd cc
