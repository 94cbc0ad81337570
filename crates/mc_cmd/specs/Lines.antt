-- The lines of a function's file.
use Rattle.std.specs.Prelude.{◌≡◌, ◌≤◌, ℕ, [], ◌∷◌, ◌++◌, length, true, nat_eq}
use Rattle.std.specs.List.{list_all, slice_split}
use Rattle.mc_cmd.specs.Form.{Text, lacks}
use Rattle.mc_cmd.specs.Chain.{Texts}

-- each line is ended by a line feed
abbrev pub file_text : Texts → Text
file_text [] = []
file_text (l ∷ ls) = l ++ (10 ∷ file_text ls)

-- an empty rest after the last line feed is no line
abbrev pub without_empty_end : Texts → Texts
without_empty_end [] = []
without_empty_end ([] ∷ []) = []
without_empty_end ((b ∷ t) ∷ []) = (b ∷ t) ∷ []
without_empty_end (l ∷ (m ∷ ls)) = l ∷ without_empty_end (m ∷ ls)

-- the lines of a file, divided at line feeds
abbrev pub file_lines : Text → Texts
file_lines bytes = without_empty_end (slice_split (λ b. nat_eq b 10) bytes)

-- the most bytes that the file of a function may have: 16 MiB
abbrev pub file_cap : ℕ
file_cap = 16777216

-- a file of these lines can be read back as these lines: none has a line feed, and the file isn't too long
pub record IsShort (lines : Texts) : Type 0 where
  pub unbroken : list_all (lacks 10) lines ≡ true
  pub short : length (file_text lines) ≤ file_cap
