-- What trees in a world tell: which piece has a name, which frame below has an entry, which frames have a list of such.
use Rattle.std.specs.Prelude.{◌≡◌, List}
use Rattle.mc_nbt.specs.Tree.{Tree}
use Rattle.cc_line.specs.Key.{PieceId, id_tree}
use Rattle.cc_line.specs.Running.{Kept, entry_tree, below_tree}
use Rattle.cc_entries.specs.Law.{NameTells, AllTell}

-- the tree is the name of this piece, which is told by it
abbrev pub NamesPiece : Tree → PieceId → Type 0
NamesPiece t i = NameTells i × (t ≡ id_tree i)

-- the tree is the entry of this frame, and the piece that follows is told by its name
abbrev pub KeepsFrame : Tree → Kept → Type 0
KeepsFrame t b = NameTells b.follows × (t ≡ entry_tree b)

-- the tree is the list of such entries, the outermost first
abbrev pub KeepsFrames : Tree → List Kept → Type 0
KeepsFrames t bs = AllTell bs × (t ≡ below_tree bs)
