-- Open texts: texts with the names of ints in them. A macro line is an open command.
use Rattle.std.specs.Prelude.{◌≡◌, ℤ, List, [], ◌∷◌, ◌++◌, Bool, true, false, ◌&&◌, Some}
use Rattle.std.specs.List.{list_all}
use Rattle.std.specs.Fmt.{signed_decimal}
use Rattle.mc_nbt.specs.Word.{is_key}
use Rattle.mc_nbt.specs.Tree.{Tree, Part, place}
use Rattle.mc_cmd.specs.Form.{Text, Last, Front}
use Rattle.mc_cmd.specs.Command.{PatternPart, literal, hole}
use Rattle.mc_cmd.specs.Pattern.{is_literal_byte, pattern_text}
use Rattle.mc_cmd.specs.Fill.{value_of}

-- a chunk of an open text: as it stands, or the decimal digits of the int of a name
pub data Chunk : Type 0 where
  still : Text → Chunk
  named : Text → Chunk

-- ints by their names
abbrev pub Ints : Type 0
Ints = Text → ℤ

-- the text with these ints
abbrev pub chunks_text : Ints → List Chunk → Text
chunks_text r [] = []
chunks_text r (still l ∷ ps) = l ++ chunks_text r ps
chunks_text r (named n ∷ ps) = signed_decimal (r n) ++ chunks_text r ps

-- the pattern of an open text, behind a literal part that is begun
abbrev pub ends : Text → List PatternPart → List PatternPart
ends [] ps = ps
ends (b ∷ l) ps = literal (b ∷ l) ∷ ps

abbrev pub pattern_from : Text → List Chunk → List PatternPart
pattern_from l [] = ends l []
pattern_from l (still m ∷ ps) = pattern_from (l ++ m) ps
pattern_from l (named n ∷ ps) = ends l (hole n ∷ pattern_from [] ps)

abbrev pub pattern_of : List Chunk → List PatternPart
pattern_of ps = pattern_from [] ps

-- the macro line of an open text
abbrev pub macro_text : List Chunk → Text
macro_text ps = pattern_text (pattern_of ps)

-- a tree gives these ints under the names of a text
abbrev pub Gives : Tree → Ints → List Chunk → Type 0
Gives v r [] = Unit {0}
Gives v r (still l ∷ ps) = Gives v r ps
Gives v r (named n ∷ ps) = (value_of v n ≡ Some (signed_decimal (r n))) × Gives v r ps

-- whether the bytes of a text may stand in a macro line, and whether it has a name
abbrev pub chunks_fit : List Chunk → Bool
chunks_fit [] = true
chunks_fit (still l ∷ ps) = list_all is_literal_byte l && chunks_fit ps
chunks_fit (named n ∷ ps) = is_key n && chunks_fit ps

abbrev pub has_name : List Chunk → Bool
has_name [] = false
has_name (still l ∷ ps) = has_name ps
has_name (named n ∷ ps) = true

-- an open value of a form: an open text, and the value that it spells with each choice of ints
pub record Open {A : Type 0} (l : Last A) : Type 0 where
  pub chunks : List Chunk
  pub value : Ints → A
  pub spelled : (r : Ints) → chunks_text r chunks ≡ l.text (value r)

pub record OpenFront {A : Type 0} (f : Front A) : Type 0 where
  pub chunks : List Chunk
  pub value : Ints → A
  pub spelled : (r : Ints) (t : Text) → chunks_text r chunks ++ t ≡ f.text (value r) t

-- an open step of a path: a step as it stands, or the place of a list that a name tells
pub data OpenPart : Type 0 where
  step : Part → OpenPart
  place_of : Text → OpenPart

abbrev pub part_with : Ints → OpenPart → Part
part_with r (step p) = p
part_with r (place_of n) = place (r n)

abbrev pub path_with : Ints → List OpenPart → List Part
path_with r [] = []
path_with r (p ∷ ps) = part_with r p ∷ path_with r ps
