-- What the code reads of any tree, before it has found out what this is the tree of.
use Rattle.std.specs.Prelude.{ℕ, List, [], map, ℤ, pos, negsuc, Option, Some, None, if◌then◌else◌, nat_eq, nat_lt}
use Rattle.mc_nbt.specs.Tree.{Tree, int, string, list, compound, of_items}
use Rattle.cc_line.specs.Key.{PieceId, body_piece, init_piece, shared_piece, end_piece, group_shared, group_init}

-- the int that a tree is; 0 for other trees, and where there is none
abbrev pub int_of : Tree → ℤ
int_of (int z) = z
int_of (string b) = pos 0
int_of (list ts) = pos 0
int_of (compound fs) = pos 0

abbrev pub int_in : Option Tree → ℤ
int_in None = pos 0
int_in (Some t) = int_of t

-- a number that isn't below 0
abbrev pub natural : ℤ → ℕ
natural (pos n) = n
natural (negsuc n) = 0

-- the ints in a list; none in other trees, and where there is none
abbrev pub ints_of : Tree → List ℤ
ints_of (int z) = []
ints_of (string b) = []
ints_of (list ts) = map int_of (of_items ts)
ints_of (compound fs) = []

abbrev pub ints_in : Option Tree → List ℤ
ints_in None = []
ints_in (Some t) = ints_of t

-- the only piece that may have these two numbers in its name and be told by it
abbrev pub numbered : ℕ → ℕ → PieceId
numbered i j =
    if nat_lt i group_shared
    then body_piece i j
    else (if nat_eq i group_shared then shared_piece j else (if nat_eq i group_init then init_piece j else end_piece j))
