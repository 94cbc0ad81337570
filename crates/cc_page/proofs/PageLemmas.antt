-- Pages as one list of words.
use Rattle.std.proofs.Common.{◌≡◌, ◌<◌, ℕ, zero, suc, ◌+◌, ◌*◌, List, [], ◌∷◌, ◌++◌, length, Some, refl, sym, ap, ◌∙◌, arith, length-append, length-set}
use Rattle.std.specs.Prelude.{slice_get, slice_set}
use Rattle.std.proofs.lemmas.Option.{same_Some, slice_get_within}
use Rattle.mc_cmd.specs.Layout.{page_words}
use Rattle.cc_page.specs.Pages.{AreWords, ArePages, words_bytes, pages_bytes, word_at, with_word}
use Rattle.cc_page.proofs.ListLemmas.{get_front, get_back, set_front, set_back}
use Rattle.cc_page.proofs.WordLemmas.{words_bytes-append}

-- the words of all pages
abbrev pub all_words : List (List ℕ) → List ℕ
all_words [] = []
all_words (p ∷ ps) = p ++ all_words ps

pub pages_bytes-words : (ps : List (List ℕ)) → pages_bytes ps ≡ words_bytes (all_words ps)
pages_bytes-words [] = refl
pages_bytes-words (p ∷ ps) = ap (λ l. words_bytes p ++ l) (pages_bytes-words ps) ∙ sym (words_bytes-append p (all_words ps))

pub all_words-length : (ps : List (List ℕ)) → ArePages ps → length (all_words ps) ≡ 16384 * length ps
all_words-length [] h = omega arith
all_words-length (p ∷ ps) h =
    let l : length p ≡ 16384 = h.0.0 in
    omega (arith, l, all_words-length ps h.1, length-append p (all_words ps))

-- ---- single words

pub word_of : (ps : List (List ℕ)) (p i : ℕ) → ArePages ps → i < page_words → slice_get (all_words ps) (16384 * p + i) ≡ word_at ps p i
word_of [] p i h l = refl
word_of (g ∷ ps) zero i h l =
    let long : length g ≡ 16384 = h.0.0 in
    let e : 16384 * 0 + i ≡ i = omega arith in
    ap (slice_get (g ++ all_words ps)) e ∙ get_front g (all_words ps) i (omega arith)
word_of (g ∷ ps) (suc p) i h l =
    let long : length g ≡ 16384 = h.0.0 in
    get_back g (all_words ps) (16384 * suc p + i) (16384 * p + i) (omega arith) ∙ word_of ps p i h.1 l

pub with_word-words : (ps : List (List ℕ)) (p i v : ℕ) → ArePages ps → i < page_words
    → all_words (with_word ps p i v) ≡ slice_set (all_words ps) (16384 * p + i) v
with_word-words [] p i v h l = refl
with_word-words (g ∷ ps) zero i v h l =
    let long : length g ≡ 16384 = h.0.0 in
    let e : i ≡ 16384 * 0 + i = omega arith in
    sym (set_front g (all_words ps) i v (omega arith)) ∙ ap (λ k. slice_set (g ++ all_words ps) k v) e
with_word-words (g ∷ ps) (suc p) i v h l =
    let long : length g ≡ 16384 = h.0.0 in
    ap (λ k. g ++ k) (with_word-words ps p i v h.1 l)
    ∙ sym (set_back g (all_words ps) (16384 * suc p + i) (16384 * p + i) v (omega arith))

-- a word is below 2^32
word_below : (ms : List ℕ) (i m : ℕ) → AreWords ms → slice_get ms i ≡ Some m → m < 4294967296
word_below [] i m a h = absurd cc
word_below (n ∷ ms) zero m a h = let l = a.0 in let e : n ≡ m = same_Some n m h in omega (arith, e, l)
word_below (n ∷ ms) (suc i) m a h = word_below ms i m a.1 h

-- there is one in each place of a page
word_there : (ms : List ℕ) (i : ℕ) → AreWords ms → i < length ms → (m : ℕ) × (slice_get ms i ≡ Some m) × (m < 4294967296)
word_there [] i a l = absurd (omega arith)
word_there (m ∷ ms) zero a l = (m, refl, a.0)
word_there (m ∷ ms) (suc i) a l = word_there ms i a.1 (omega arith)

pub word_stands : (ps : List (List ℕ)) → ArePages ps → (p i : ℕ) → p < length ps → i < page_words
    → (m : ℕ) × (word_at ps p i ≡ Some m) × (m < 4294967296)
word_stands [] h p i l k = absurd (omega arith)
word_stands (g ∷ ps) h zero i l k = let long : length g ≡ 16384 = h.0.0 in word_there g i h.0.1 (omega arith)
word_stands (g ∷ ps) h (suc p) i l k = word_stands ps h.1 p i (omega arith) k

-- a word that is there is one of a page
pub word_in_page : (ps : List (List ℕ)) (p i m : ℕ) → ArePages ps → word_at ps p i ≡ Some m → (i < 16384) × (m < 4294967296)
word_in_page [] p i m h w = absurd cc
word_in_page (g ∷ ps) zero i m h w =
    let long : length g ≡ 16384 = h.0.0 in
    (omega (arith, slice_get_within g i m w, long), word_below g i m h.0.1 w)
word_in_page (g ∷ ps) (suc p) i m h w = word_in_page ps p i m h.1 w

-- pages with another word are pages
are_words_set : (ms : List ℕ) (i v : ℕ) → AreWords ms → v < 4294967296 → AreWords (slice_set ms i v)
are_words_set [] i v a l = tt
are_words_set (m ∷ ms) zero v a l = (l, a.1)
are_words_set (m ∷ ms) (suc i) v a l = (a.0, are_words_set ms i v a.1 l)

pub are_pages_with : (ps : List (List ℕ)) (p i v : ℕ) → ArePages ps → v < 4294967296 → ArePages (with_word ps p i v)
are_pages_with [] p i v h l = tt
are_pages_with (g ∷ ps) zero i v h l = ((length-set g i v ∙ h.0.0, are_words_set g i v h.0.1 l), h.1)
are_pages_with (g ∷ ps) (suc p) i v h l = (h.0, are_pages_with ps p i v h.1 l)
