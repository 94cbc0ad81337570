-- What the name of a piece and the tree of the frames below tell, which the contract of a public function cites.
use Rattle.std.specs.Prelude.{◌≡◌, ◌<◌, List, All}
use Rattle.cc_line.specs.Key.{PieceId, body_piece, init_piece, shared_piece, end_piece, id_tree, group_shared}
use Rattle.cc_line.specs.Running.{Kept, below_tree}

-- a piece is told by its name: the number of a function is none of those that stand in the names of other pieces
abbrev pub NameTells : PieceId → Type 0
NameTells (body_piece f j) = f < group_shared
NameTells (init_piece j) = Unit {0}
NameTells (shared_piece j) = Unit {0}
NameTells (end_piece w) = Unit {0}

-- two such pieces with one name are one
abbrev pub NamesTell : Type 0
NamesTell = (i j : PieceId) → NameTells i → NameTells j → id_tree i ≡ id_tree j → i ≡ j

-- the pieces that follow these frames are told by their names
abbrev pub AllTell : List Kept → Type 0
AllTell bs = All (λ b. NameTells b.follows) bs

-- two such lists of frames below with one tree are one
abbrev pub EntriesTell : Type 0
EntriesTell = (bs cs : List Kept) → AllTell bs → AllTell cs → below_tree bs ≡ below_tree cs → bs ≡ cs
