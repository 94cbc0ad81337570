-- Macro lines: how patterns are spelled.
use Rattle.std.specs.Prelude.{ℕ, List, [], ◌∷◌, ◌++◌, Bool, true, false, ◌&&◌, not, nat_eq, nat_le, if◌then◌else◌}
use Rattle.std.specs.List.{list_all}
use Rattle.mc_nbt.specs.Word.{is_key}
use Rattle.mc_cmd.specs.Form.{Text, Last, guessed, lacks}
use Rattle.mc_cmd.specs.Command.{PatternPart, literal, hole}

-- a literal part as it stands, and `$(NAME)`
abbrev pub parts_text : List PatternPart → Text
parts_text [] = []
parts_text (literal l ∷ ps) = l ++ parts_text ps
parts_text (hole n ∷ ps) = 36 ∷ 40 ∷ (n ++ (41 ∷ parts_text ps))

-- a byte of a literal part: printable ASCII other than `$`
abbrev pub is_literal_byte : ℕ → Bool
is_literal_byte b = nat_le 32 b && (nat_le b 126 && not (nat_eq b 36))

abbrev pub is_literal : Text → Bool
is_literal [] = false
is_literal (b ∷ l) = list_all is_literal_byte (b ∷ l)

-- no literal part is empty, and no two stand side by side
abbrev pub begins_with_hole : List PatternPart → Bool
begins_with_hole [] = true
begins_with_hole (literal l ∷ ps) = false
begins_with_hole (hole n ∷ ps) = true

abbrev pub parts_fit : List PatternPart → Bool
parts_fit [] = true
parts_fit (literal l ∷ ps) = is_literal l && (begins_with_hole ps && parts_fit ps)
parts_fit (hole n ∷ ps) = is_key n && parts_fit ps

-- a text with a whole first word and the space after it
abbrev pub has_word : Text → Bool
has_word [] = false
has_word (b ∷ l) = if nat_eq b 32 then false else not (lacks 32 l)

-- the first part is a literal one with a whole first word and the space after it, and at least one part follows
abbrev pub pattern_fits : List PatternPart → Bool
pattern_fits [] = false
pattern_fits (hole n ∷ ps) = false
pattern_fits (literal l ∷ []) = false
pattern_fits (literal l ∷ p ∷ ps) = has_word l && parts_fit (literal l ∷ p ∷ ps)

abbrev pub pattern_text : List PatternPart → Text
pattern_text ps = 36 ∷ parts_text ps

-- where a reader of the parts stands: in a literal part, behind a `$`, in a name
pub data Mode : Type 0 where
  outside : Mode
  opening : Mode
  inside : Mode

abbrev pub onto_literal : ℕ → List PatternPart → List PatternPart
onto_literal b [] = literal (b ∷ []) ∷ []
onto_literal b (literal l ∷ ps) = literal (b ∷ l) ∷ ps
onto_literal b (hole n ∷ ps) = literal (b ∷ []) ∷ hole n ∷ ps

abbrev pub onto_hole : ℕ → List PatternPart → List PatternPart
onto_hole b [] = []
onto_hole b (literal l ∷ ps) = []
onto_hole b (hole n ∷ ps) = hole (b ∷ n) ∷ ps

abbrev pub parts_in : Text → Mode → List PatternPart
parts_in [] m = []
parts_in (b ∷ t) outside = if nat_eq b 36 then parts_in t opening else onto_literal b (parts_in t outside)
parts_in (b ∷ t) opening = parts_in t inside
parts_in (b ∷ t) inside = if nat_eq b 41 then hole [] ∷ parts_in t outside else onto_hole b (parts_in t inside)

abbrev pub pattern_value : Text → List PatternPart
pattern_value [] = []
pattern_value (b ∷ t) = parts_in t outside

abbrev pub patterns : Last (List PatternPart)
patterns = guessed pattern_text pattern_fits pattern_value
