-- Memory as a pack keeps it: pages of words. A word has four bytes, the lowest first, and is a number below 2^32; a
-- storage keeps it as the signed number of the same 32 bits.
use Rattle.std.specs.Prelude.{◌≡◌, ◌<◌, ℕ, zero, suc, ◌+◌, ◌*◌, ◌-◌, ◌/◌, ◌%◌, ◌^◌, List, [], ◌∷◌, ◌++◌, length, map}
use Rattle.std.specs.Prelude.{take, drop, replicate, ℤ}
use Rattle.std.specs.Prelude.{Option, option_and_then, slice_get, slice_set}
use Rattle.std.specs.Int.{w32, cast_signed}
use Rattle.mc_nbt.specs.Tree.{Tree, int, list_of}
use Rattle.mc_cmd.specs.Layout.{page_words}
use Rattle.wm_ast.specs.Storage.{bytes_of, number_of}
use Rattle.wm_ast.specs.Store.{page_size}

-- ---- words and pages

abbrev pub AreWords : List ℕ → Type 0
AreWords [] = Unit {0}
AreWords (m ∷ ms) = (m < 4294967296) × AreWords ms

abbrev pub IsPage : List ℕ → Type 0
IsPage p = (length p ≡ page_words) × AreWords p

abbrev pub ArePages : List (List ℕ) → Type 0
ArePages [] = Unit {0}
ArePages (p ∷ ps) = IsPage p × ArePages ps

abbrev pub zero_page : List ℕ
zero_page = replicate page_words 0

-- ---- their bytes

-- those of words, one after the other
abbrev pub words_bytes : List ℕ → List ℕ
words_bytes [] = []
words_bytes (m ∷ ms) = bytes_of 4 m ++ words_bytes ms

-- the bytes of the memory
abbrev pub pages_bytes : List (List ℕ) → List ℕ
pages_bytes [] = []
pages_bytes (p ∷ ps) = words_bytes p ++ pages_bytes ps

-- ---- the words and pages that bytes make

-- four bytes a word; where fewer are left there is none
abbrev pub words_of : List ℕ → List ℕ
words_of (a ∷ (b ∷ (c ∷ (d ∷ bs)))) = number_of (a ∷ (b ∷ (c ∷ (d ∷ [])))) ∷ words_of bs
words_of _ = []

-- the first so many pages
abbrev pub pages_of : ℕ → List ℕ → List (List ℕ)
pages_of zero bs = []
pages_of (suc n) bs = words_of (take page_size bs) ∷ pages_of n (drop page_size bs)

-- ---- as trees

-- a word as a score and a storage have it
abbrev pub signed_word : ℕ → ℤ
signed_word m = cast_signed w32 m

abbrev pub page_tree : List ℕ → Tree
page_tree ms = list_of (map (λ m. int (signed_word m)) ms)

abbrev pub pages_tree : List (List ℕ) → Tree
pages_tree ps = list_of (map page_tree ps)

-- ---- single words

-- word i of page p
abbrev pub word_at : List (List ℕ) → ℕ → ℕ → Option ℕ
word_at ps p i = option_and_then (λ (page : List ℕ). slice_get page i) (slice_get ps p)

-- the pages with another word there
abbrev pub with_word : List (List ℕ) → ℕ → ℕ → ℕ → List (List ℕ)
with_word [] p i m = []
with_word (page ∷ ps) zero i m = slice_set page i m ∷ ps
with_word (page ∷ ps) (suc p) i m = page ∷ with_word ps p i m

-- the address of its byte r
abbrev pub byte_address : ℕ → ℕ → ℕ → ℕ
byte_address p i r = 65536 * p + (4 * i + r)

-- page and place of the word behind it
abbrev pub next_page : ℕ → ℕ → ℕ
next_page p i = p + (i + 1) / page_words

abbrev pub next_place : ℕ → ℕ
next_place i = (i + 1) % page_words

-- ---- some bytes of words

-- so many bytes of a word, from byte r on, as a number
abbrev pub part_of : ℕ → ℕ → ℕ → ℕ
part_of m r width = (m / 256 ^ r) % 256 ^ width

-- the word with those of another number in their place
abbrev pub with_part : ℕ → ℕ → ℕ → ℕ → ℕ
with_part m r width x = (m - part_of m r width * 256 ^ r) + (x % 256 ^ width) * 256 ^ r

-- Of two words that follow one another: what stands from byte r of the first on, with the lowest bytes of the second,
-- as a number of so many bytes.
abbrev pub glued : ℕ → ℕ → ℕ → ℕ → ℕ
glued m n r width = (m / 256 ^ r + n * 256 ^ (4 - r)) % 256 ^ width

-- the first and the second of two such words, with the bytes of another number from byte r of the first on
abbrev pub first_with : ℕ → ℕ → ℕ → ℕ
first_with m r x = m % 256 ^ r + (x % 256 ^ (4 - r)) * 256 ^ r

abbrev pub second_with : ℕ → ℕ → ℕ → ℕ → ℕ
second_with n r width x = with_part n 0 (r + width - 4) (x / 256 ^ (4 - r))

-- the pages with both of them, the second one written first
abbrev pub with_pair : List (List ℕ) → ℕ → ℕ → ℕ → ℕ → ℕ → ℕ → ℕ → List (List ℕ)
with_pair ps p i r width m n x =
    with_word (with_word ps (next_page p i) (next_place i) (second_with n r width x)) p i (first_with m r x)
