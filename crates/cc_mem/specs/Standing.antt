-- What stands besides frames while a program with a memory runs: the memory's pages, the constants of its routines, and
-- the window, a page that is known to stand, so that an access to it needs no test but that of its address.
use Rattle.std.specs.Prelude.{◌≡◌, ◌≤◌, ◌<◌, ◌⊎◌, ℕ, ◌*◌, ◌-◌, ◌^◌, List, [], ◌∷◌, length, ℤ, pos, Some, true, codes}
use Rattle.mc_nbt.specs.Tree.{Tree, int, compound_of}
use Rattle.mc_nbt.specs.Word.{is_int}
use Rattle.mc_cmd.specs.Form.{Text}
use Rattle.cc_line.specs.Sight.{in_memory, in_rest}
use Rattle.cc_line.specs.Key.{key_memory, key_filling, score_window, score_four, score_page_words, scale_of}
use Rattle.cc_line.specs.State.{State}
use Rattle.cc_page.specs.Pages.{ArePages, pages_tree}

-- ---- names

-- powers of 256, by a number that stands behind these letters: to the power of the number, of 3 less it, of 2
-- less it, and of 4 less it
abbrev pub stem_byte : Text
stem_byte = codes "#b"

abbrev pub stem_top : Text
stem_top = codes "#d"

abbrev pub stem_half : Text
stem_half = codes "#c"

abbrev pub stem_rest : Text
stem_rest = codes "#f"

-- ---- constants

pub record Constants (s : State) : Type 0 where
  pub four : s.scores score_four ≡ Some (pos 4)
  pub page_words : s.scores score_page_words ≡ Some (pos 16384)
  pub bytes : (r : ℕ) → r < 4 → s.scores (scale_of stem_byte r) ≡ Some (pos (256 ^ r))
  pub tops : (r : ℕ) → r < 4 → s.scores (scale_of stem_top r) ≡ Some (pos (256 ^ (3 - r)))
  pub halves : (r : ℕ) → r < 3 → s.scores (scale_of stem_half r) ≡ Some (pos (256 ^ (2 - r)))
  pub rests : (r : ℕ) → 1 ≤ r → r < 4 → s.scores (scale_of stem_rest r) ≡ Some (pos (256 ^ (4 - r)))

-- ---- the window

-- the compound that fills the lines of accesses: the page of the window, a place in it, and a byte of the word there
abbrev pub filling_tree : ℕ → ℤ → ℤ → Tree
filling_tree page place byte =
    compound_of ((codes "i", int place) ∷ ((codes "p", int (pos page)) ∷ ((codes "r", int byte) ∷ [])))

-- a page that stands, if any does: the first one may be the window before it stands
pub record Window (ps : List (List ℕ)) (s : State) : Type 0 where
  pub page : ℕ
  pub stands : (page ≡ 0) ⊎ (page < length ps)
  pub base : s.scores score_window ≡ Some (pos (65536 * page))
  pub place : ℤ
  pub byte : ℤ
  pub ints : (is_int place ≡ true) × (is_int byte ≡ true)
  pub filling : s.keys in_rest key_filling ≡ Some (filling_tree page place byte)

-- ---- all of it

pub record HasMemory (ps : List (List ℕ)) (s : State) : Type 0 where
  pub pages : s.keys in_memory key_memory ≡ Some (pages_tree ps)
  pub are_pages : ArePages ps
  pub few : length ps ≤ 256
  pub constants : Constants s
  pub window : Window ps s
