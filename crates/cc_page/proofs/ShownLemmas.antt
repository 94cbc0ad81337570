-- What the public layout shows of pages, how many bytes they have, and pages of zeros.
use Rattle.std.proofs.Common.{◌≡◌, ◌<◌, ◌≤◌, ℕ, zero, suc, ◌+◌, ◌*◌, ◌-◌, ◌/◌, ◌%◌, ◌^◌, List, [], ◌∷◌, ◌++◌, length, map, replicate, Some, None, refl, sym, ap, ap₂, ◌∙◌, arith}
use Rattle.std.proofs.Common.{append_assoc, mul-zero, mul-suc, ⊎_elim}
use Rattle.std.specs.Prelude.{pos, negsuc, if◌then◌else◌}
use Rattle.std.proofs.lemmas.Bool.{lt-ltb, le-ltb, eq-eqb, cases_lt}
use Rattle.std.proofs.lemmas.List.{length-replicate, replicate-append-replicate, length-map}
use Rattle.mc_nbt.specs.Tree.{Tree, int, items, of_items}
use Rattle.mc_nbt.proofs.TreeLemmas.{of_items-items}
use Rattle.mc_cmd.specs.Layout.{page_words, joined, four_bytes, word_in, words_in, page_in}
use Rattle.wm_ast.specs.Storage.{bytes_of}
use Rattle.cc_page.specs.Pages.{AreWords, IsPage, ArePages, zero_page, words_bytes, pages_bytes, signed_word, page_tree}
use Rattle.cc_page.specs.Law.{PagesShowBytes, PagesHaveBytes, PagesGrow}
use Rattle.cc_page.proofs.PageLemmas.{all_words, all_words-length, pages_bytes-words}
use Rattle.cc_page.proofs.WordLemmas.{words_bytes-length}

-- ---- what is shown

signed_low : (m : ℕ) → m < 2 ^ 31 → signed_word m ≡ pos m
signed_low m h = ap (λ b. if b then pos m else negsuc (2 ^ 32 - suc m)) (lt-ltb m (2 ^ 31) h)

signed_high : (m : ℕ) → 2 ^ 31 ≤ m → signed_word m ≡ negsuc (2 ^ 32 - suc m)
signed_high m h = ap (λ b. if b then pos m else negsuc (2 ^ 32 - suc m)) (le-ltb m (2 ^ 31) h)

four_bytes-bytes : (m : ℕ) → four_bytes m ≡ bytes_of 4 m
four_bytes-bytes m =
    let third : m / 65536 ≡ m / 256 / 256 = omega arith in
    let fourth : m / 16777216 ≡ m / 256 / 256 / 256 = omega arith in
    ap₂ (λ c d. (m % 256) ∷ (((m / 256) % 256) ∷ ((c % 256) ∷ ((d % 256) ∷ [])))) third fourth

word_shown : (m : ℕ) → m < 4294967296 → word_in (int (signed_word m)) ≡ Some (bytes_of 4 m)
word_shown m h =
    ⊎_elim
    (λ low. ap (λ z. word_in (int z)) (signed_low m low) ∙ ap Some (four_bytes-bytes m))
    (λ high.
    let back : 2 ^ 32 - suc (2 ^ 32 - suc m) ≡ m = omega arith in
    ap (λ z. word_in (int z)) (signed_high m high) ∙ ap (λ n. Some (four_bytes n)) back ∙ ap Some (four_bytes-bytes m))
    (cases_lt m (2 ^ 31))

words_shown : (ms : List ℕ) → AreWords ms → words_in (items (map (λ m. int (signed_word m)) ms)) ≡ Some (words_bytes ms)
words_shown [] h = refl
words_shown (m ∷ ms) h = ap₂ joined (word_shown m h.0) (words_shown ms h.1)

page_shown : (p : List ℕ) → IsPage p → page_in (page_tree p) ≡ Some (words_bytes p)
page_shown p h =
    let ts : List Tree = map (λ m. int (signed_word m)) p in
    let long : length (of_items (items ts)) ≡ page_words = ap length (of_items-items ts) ∙ length-map p (λ m. int (signed_word m)) ∙ h.0 in
    ap (λ b. if b then words_in (items ts) else None) (eq-eqb (length (of_items (items ts))) page_words long) ∙ words_shown p h.1

pub pages_shown : PagesShowBytes
pages_shown [] h = refl
pages_shown (p ∷ ps) h = ap₂ joined (page_shown p h.0) (pages_shown ps h.1)

-- ---- how many there are

pub pages_many : PagesHaveBytes
pages_many ps h =
    let e = pages_bytes-words ps in
    omega (arith, ap length e, words_bytes-length (all_words ps), all_words-length ps h)

-- ---- pages of zeros

pages_bytes-append : (a b : List (List ℕ)) → pages_bytes (a ++ b) ≡ pages_bytes a ++ pages_bytes b
pages_bytes-append [] b = refl
pages_bytes-append (p ∷ a) b =
    ap (λ l. words_bytes p ++ l) (pages_bytes-append a b) ∙ sym (append_assoc (words_bytes p) (pages_bytes a) (pages_bytes b))

zeros_bytes : (n : ℕ) → words_bytes (replicate n 0) ≡ replicate (4 * n) 0
zeros_bytes zero = refl
zeros_bytes (suc n) =
    let e : 4 + 4 * n ≡ 4 * suc n = omega arith in
    ap (λ l. bytes_of 4 0 ++ l) (zeros_bytes n) ∙ replicate-append-replicate 4 (4 * n) 0 ∙ ap (λ k. replicate k 0) e

zeros_words : (n : ℕ) → AreWords (replicate n 0)
zeros_words zero = tt
zeros_words (suc n) = (omega arith, zeros_words n)

-- of a page whose bytes are so many zeros
equal_pages : (page : List ℕ) (n k : ℕ) → words_bytes page ≡ replicate n 0 → pages_bytes (replicate k page) ≡ replicate (n * k) 0
equal_pages page n zero h = let e : 0 ≡ n * 0 = sym (mul-zero n) in ap (λ k. replicate k 0) e
equal_pages page n (suc k) h =
    let e : n + n * k ≡ n * suc k = omega (arith, mul-suc n k) in
    ap₂ (λ a b. a ++ b) h (equal_pages page n k h) ∙ replicate-append-replicate n (n * k) 0 ∙ ap (λ k. replicate k 0) e

more_pages : (ps : List (List ℕ)) (page : List ℕ) (k : ℕ) → ArePages ps → IsPage page → ArePages (ps ++ replicate k page)
more_pages [] page zero h g = tt
more_pages [] page (suc k) h g = (g, more_pages [] page k h g)
more_pages (p ∷ ps) page k h g = (h.0, more_pages ps page k h.1 g)

pub pages_grown : PagesGrow
pages_grown ps k h = (
  more_pages ps zero_page k h (length-replicate {A = ℕ} page_words 0, zeros_words page_words),
  pages_bytes-append ps (replicate k zero_page) ∙ ap (λ l. pages_bytes ps ++ l) (equal_pages zero_page 65536 k (zeros_bytes page_words)),
)
