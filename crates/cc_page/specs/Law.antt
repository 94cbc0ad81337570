-- Laws of pages, which the contracts of public functions cite.
use Rattle.std.specs.Prelude.{◌≡◌, ◌<◌, ◌≤◌, ℕ, ◌+◌, ◌*◌, ◌-◌, ◌^◌, List, [], ◌∷◌, ◌++◌, length, replicate, ℤ, pos}
use Rattle.std.specs.Prelude.{Some, None, All, if◌then◌else◌}
use Rattle.mc_nbt.specs.Tree.{int, Part, place, select, set_at}
use Rattle.mc_cmd.specs.Command.{divide, remainder, multiply, add, between}
use Rattle.mc_cmd.specs.Layout.{page_words, memory_in}
use Rattle.mc_cmd.specs.World.{operate, some_is_in}
use Rattle.wm_ast.specs.Storage.{bytes_of, number_of}
use Rattle.wm_ast.specs.Store.{page_size, items_at, overwritten}
use Rattle.cc_page.specs.Pages.{ArePages, zero_page, pages_bytes, pages_of, signed_word, pages_tree, word_at, with_word}
use Rattle.cc_page.specs.Pages.{with_pair}
use Rattle.cc_page.specs.Pages.{byte_address, next_page, next_place, part_of, with_part, glued}

-- ---- the bytes that pages have

-- what the public layout shows of pages are their bytes
abbrev pub PagesShowBytes : Type 0
PagesShowBytes = (ps : List (List ℕ)) → ArePages ps → memory_in (Some (pages_tree ps)) ≡ Some (pages_bytes ps)

-- 65,536 for each page, all below 256
abbrev pub PagesHaveBytes : Type 0
PagesHaveBytes = (ps : List (List ℕ)) → ArePages ps → length (pages_bytes ps) ≡ 65536 * length ps

-- pages of zeros behind others
abbrev pub PagesGrow : Type 0
PagesGrow = (ps : List (List ℕ)) (k : ℕ) → ArePages ps
    → ArePages (ps ++ replicate k zero_page)
    × (pages_bytes (ps ++ replicate k zero_page) ≡ pages_bytes ps ++ replicate (65536 * k) 0)

-- bytes in whole pages are those of the pages that they make
abbrev pub BytesMakePages : Type 0
BytesMakePages = (bs : List ℕ) (n : ℕ) → All (λ b. b < 256) bs → length bs ≡ page_size * n
    → ArePages (pages_of n bs) × (pages_bytes (pages_of n bs) ≡ bs) × (length (pages_of n bs) ≡ n)

-- ---- reading

-- each word of a page stands
abbrev pub WordsStand : Type 0
WordsStand = (ps : List (List ℕ)) → ArePages ps → (p i : ℕ) → p < length ps → i < page_words
    → (m : ℕ) × (word_at ps p i ≡ Some m) × (m < 4294967296)

-- bytes within a word
abbrev pub WordsAreRead : Type 0
WordsAreRead = (ps : List (List ℕ)) → ArePages ps → (p i r width m : ℕ) → word_at ps p i ≡ Some m → r + width ≤ 4
    → (items_at (pages_bytes ps) (byte_address p i r) width ≡ Some (bytes_of width (part_of m r width)))
    × (number_of (bytes_of width (part_of m r width)) ≡ part_of m r width)

-- bytes of a word and the next one
abbrev pub PairsAreRead : Type 0
PairsAreRead = (ps : List (List ℕ)) → ArePages ps → (p i r width m n : ℕ) → word_at ps p i ≡ Some m
    → word_at ps (next_page p i) (next_place i) ≡ Some n → r < 4 → width ≤ 4 → 4 < r + width
    → (items_at (pages_bytes ps) (byte_address p i r) width ≡ Some (bytes_of width (glued m n r width)))
    × (number_of (bytes_of width (glued m n r width)) ≡ glued m n r width)

-- nothing beyond the last page
abbrev pub NothingBeyond : Type 0
NothingBeyond = (ps : List (List ℕ)) → ArePages ps → (a width : ℕ) → 65536 * length ps < a + width
    → items_at (pages_bytes ps) a width ≡ None

-- ---- writing

-- bytes within a word
abbrev pub WordsAreWritten : Type 0
WordsAreWritten = (ps : List (List ℕ)) → ArePages ps → (p i r width m x : ℕ) → word_at ps p i ≡ Some m → r + width ≤ 4
    → ArePages (with_word ps p i (with_part m r width x))
    × (overwritten (pages_bytes ps) (byte_address p i r) (bytes_of width x)
    ≡ pages_bytes (with_word ps p i (with_part m r width x)))

-- bytes of a word and the next one
abbrev pub PairsAreWritten : Type 0
PairsAreWritten = (ps : List (List ℕ)) → ArePages ps → (p i r width m n x : ℕ) → word_at ps p i ≡ Some m
    → word_at ps (next_page p i) (next_place i) ≡ Some n → r < 4 → width ≤ 4 → 4 < r + width
    → ArePages (with_pair ps p i r width m n x)
    × (overwritten (pages_bytes ps) (byte_address p i r) (bytes_of width x)
    ≡ pages_bytes (with_pair ps p i r width m n x))

-- ---- in a storage

abbrev pub word_path : ℕ → ℕ → List Part
word_path p i = place (pos p) ∷ (place (pos i) ∷ [])

-- a word is selected by its page and its place, and a page by its own
abbrev pub WordsAreSelected : Type 0
WordsAreSelected = (ps : List (List ℕ)) → ArePages ps → (p i : ℕ)
    → ((m : ℕ) → word_at ps p i ≡ Some m → select (pages_tree ps) (word_path p i) ≡ Some (int (signed_word m)))
    × (word_at ps p i ≡ None → select (pages_tree ps) (word_path p i) ≡ None)
    × (length ps ≤ p → select (pages_tree ps) (place (pos p) ∷ []) ≡ None)

-- another word there
abbrev pub WordsAreSet : Type 0
WordsAreSet = (ps : List (List ℕ)) → ArePages ps → (p i m x : ℕ) → word_at ps p i ≡ Some m
    → set_at (place (pos p)) (place (pos i) ∷ []) (int (signed_word x)) (pages_tree ps)
    ≡ Some (pages_tree (with_word ps p i x))

-- ---- by scores

-- A word as a signed number: the parts that quotients and rests by powers of 256 give, which
-- the scoreboard rounds down.
abbrev pub PartsByScores : Type 0
PartsByScores = (m r width : ℕ) → m < 4294967296 → r < 4 → 0 < width → width < 4 → r + width ≤ 4
    → (q : ℤ) × (operate divide (signed_word m) (pos (256 ^ r)) ≡ Some q)
    × (operate remainder q (pos (256 ^ width)) ≡ Some (pos (part_of m r width)))

-- Two words that follow one another, as one of four bytes: of the first what stands from byte r on, and the second as
-- often as the scale of the bytes that go before says, where products and sums wrap.
abbrev pub PairsByScores : Type 0
PairsByScores = (m n r : ℕ) → m < 4294967296 → n < 4294967296 → 0 < r → r < 4
    → (q low high : ℤ) × (operate divide (signed_word m) (pos (256 ^ r)) ≡ Some q)
    × (operate remainder q (pos (256 ^ (4 - r))) ≡ Some low)
    × (operate multiply (signed_word n) (pos (256 ^ (4 - r))) ≡ Some high)
    × (operate add high low ≡ Some (signed_word (glued m n r 4)))

-- ---- addresses by scores

-- what an operand counts as in an address: itself from 0 to 16777215, or else 16777216, which lies behind 256 pages
abbrev pub base_of : ℤ → ℤ
base_of z = if some_is_in (between (pos 0) (pos 16777215)) (Some z) then z else pos 16777216

-- An operand without sign, as a score, and an offset: their sum doesn't wrap, and quotients and rests give its page,
-- place and byte. It is the effective address, unless that lies behind 256 pages, and then so does it.
abbrev pub AddressesSplit : Type 0
AddressesSplit = (u offset : ℕ) → u < 4294967296 → offset < 16777216
    → (p i r : ℕ) × (operate add (base_of (signed_word u)) (pos offset) ≡ Some (pos (byte_address p i r)))
    × (operate divide (pos (byte_address p i r)) (pos 4) ≡ Some (pos (page_words * p + i)))
    × (operate remainder (pos (byte_address p i r)) (pos 4) ≡ Some (pos r))
    × (operate divide (pos (page_words * p + i)) (pos page_words) ≡ Some (pos p))
    × (operate remainder (pos (page_words * p + i)) (pos page_words) ≡ Some (pos i))
    × (p < 512) × (i < page_words) × (r < 4)
    × (u < 16777216 → byte_address p i r ≡ u + offset) × (16777216 ≤ u → 256 ≤ p)
