-- A module as a header and framed sections (5.5.2, 5.5.15).
use Rattle.std.specs.Prelude.{◌≡◌, ℕ, ◌<◌, ◌≤◌, List, [], ◌∷◌, ◌++◌, length, ◌⊎◌}
use Rattle.wm_ast.specs.Number.{IsUnsigned}
use Rattle.wm_ast.specs.Vector.{SpellsEach}

-- a section: its id and its content
pub record Section : Type 0 where
  pub id : ℕ
  pub content : List ℕ

-- an id from 0 to 11, the size of the content, and the content (5.5.2)
abbrev pub SpellsSection : Section → List ℕ → Type 0
SpellsSection s bytes =
    (size : List ℕ) × (s.id ≤ 11) × IsUnsigned 32 size (length s.content) × (bytes ≡ s.id ∷ (size ++ s.content))

-- the ids of the sections that aren't custom rise, from above the given one on; custom sections stand anywhere (5.5.15)
abbrev pub IsRising : ℕ → List Section → Type 0
IsRising last [] = Unit {0}
IsRising last (s ∷ ss) = ((s.id ≡ 0) × IsRising last ss) ⊎ ((last < s.id) × IsRising s.id ss)

-- the magic number and the version (5.5.15)
abbrev pub header : List ℕ
header = 0x00 ∷ 0x61 ∷ 0x73 ∷ 0x6D ∷ 0x01 ∷ 0x00 ∷ 0x00 ∷ 0x00 ∷ []

-- the header and then these sections (5.5.15)
abbrev pub IsFramed : List Section → List ℕ → Type 0
IsFramed sections bytes = (body : List ℕ) × SpellsEach SpellsSection sections body × (bytes ≡ header ++ body)
