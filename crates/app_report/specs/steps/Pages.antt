-- The bytes of memory, by the pages that the code keeps.
use Rattle.std.specs.Prelude.{◌≡◌, ◌<◌, ℕ, suc, ◌-◌, ◌/◌, ◌^◌, ℤ, pos, negsuc, List, [], length, map, true}
use Rattle.std.specs.Prelude.{Option, Some, None, MatchOption, is_some}
use Rattle.mc_nbt.specs.Tree.{Items, items, of_items}
use Rattle.mc_nbt.specs.View.{view}
use Rattle.mc_nbt.specs.declared.tree.Nbt.{Nbt}
use Rattle.mc_cmd.specs.Form.{Text}
use Rattle.mc_cmd.specs.Layout.{words_in, pages_in, page_in}
use Rattle.app_words.specs.Lines.{row_lines}

-- the unsigned number of a word
abbrev pub word_number : ℤ → ℕ
word_number (pos n) = n
word_number (negsuc n) = 2 ^ 32 - suc n

-- the bytes of these pages, where they are of the layout
abbrev pub bytes_of : List Nbt → Option (List ℕ)
bytes_of pages = pages_in (items (map view pages))

-- they are of the layout
abbrev pub ArePages : List Nbt → Type 0
ArePages pages = is_some (bytes_of pages) ≡ true

-- pages that hold these bytes were given, or none where nothing of the layout holds any
abbrev pub ArePagesOf : {R : Type 0} → Option R → (R → List Nbt) → Option (List ℕ) → Type 0
ArePagesOf r pages_of held =
    MatchOption r (held ≡ None) (λ x. (bytes_of (pages_of x) ≡ held) × ArePages (pages_of x))

-- a tree is a page of the layout
abbrev pub IsPage : Nbt → Type 0
IsPage page = is_some (page_in (view page)) ≡ true

-- a list of words has one at this place
pub record HasWord (ts : Items) (i : ℕ) : Type 0 where
  pub words : is_some (words_in ts) ≡ true
  pub within : i < length (of_items ts)

-- the lines of the rows of bytes that begin at an address
abbrev pub rows_from : ℕ → Option (List ℕ) → Text
rows_from at None = []
rows_from at (Some bytes) = row_lines (length bytes / 16) at bytes
