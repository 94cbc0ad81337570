-- Bytes read from pages.
use Rattle.std.proofs.Common.{◌≡◌, ◌<◌, ◌≤◌, ℕ, suc, ◌+◌, ◌*◌, ◌-◌, ◌/◌, ◌%◌, ◌^◌, List, ◌++◌, Some, sym, ap, ap₂, ◌∙◌, subst, arith}
use Rattle.std.specs.Prelude.{slice_get}
use Rattle.std.proofs.lemmas.Nat.{pow-add, div-mul-add, mod-mul-add, div_below}
use native.Mathlib.Nat.{mod-mod}
use Rattle.mc_cmd.specs.Layout.{page_words}
use Rattle.wm_ast.specs.Storage.{bytes_of}
use Rattle.wm_ast.specs.Store.{items_at}
use Rattle.cc_page.specs.Pages.{ArePages, pages_bytes, word_at, byte_address, next_page, next_place, glued}
use Rattle.cc_page.specs.Law.{WordsStand, WordsAreRead, PairsAreRead, NothingBeyond}
use Rattle.cc_page.proofs.ByteLemmas.{scale_positive, bytes_of-rest, bytes_of-same, number_of-rest, two_pieces}
use Rattle.cc_page.proofs.ListLemmas.{items_beyond}
use Rattle.cc_page.proofs.PageLemmas.{all_words, pages_bytes-words, word_of, word_in_page, word_stands}
use Rattle.cc_page.proofs.ShownLemmas.{pages_many}
use Rattle.cc_page.proofs.WordLemmas.{word_read, pair_read}

pub words_stand : WordsStand
words_stand = word_stands

-- the address, by words
pub address_by_words : (p i r : ℕ) → byte_address p i r ≡ 4 * (16384 * p + i) + r
address_by_words p i r = omega arith

-- the place of the next word
pub next_by_words : (p i : ℕ) → 16384 * next_page p i + next_place i ≡ suc (16384 * p + i)
next_by_words p i = omega arith

-- the next word, in the list of all
pub next_word : (ps : List (List ℕ)) (p i n : ℕ) → ArePages ps → word_at ps (next_page p i) (next_place i) ≡ Some n
    → slice_get (all_words ps) (suc (16384 * p + i)) ≡ Some n
next_word ps p i n h w =
    let l : next_place i < page_words = omega arith in
    ap (slice_get (all_words ps)) (sym (next_by_words p i)) ∙ word_of ps (next_page p i) (next_place i) h l ∙ w

pub words_read : WordsAreRead
words_read ps h p i r w m at l =
    let in_page = word_in_page ps p i m h at in
    let there : slice_get (all_words ps) (16384 * p + i) ≡ Some m = word_of ps p i h in_page.0 ∙ at in (
      ap₂ (λ bs a. items_at bs a w) (pages_bytes-words ps) (address_by_words p i r)
          ∙ word_read (all_words ps) (16384 * p + i) r w m there l
          ∙ ap Some (sym (bytes_of-rest w (m / 256 ^ r))),
      number_of-rest w (m / 256 ^ r),
    )

-- the bytes of two words that are glued
glued_bytes : (m n r s w : ℕ) → m < 4294967296 → r ≤ 4 → w ≡ (4 - r) + s
    → bytes_of (4 - r) (m / 256 ^ r) ++ bytes_of s n ≡ bytes_of w (glued m n r w)
glued_bytes m n r s w l hr e =
    let S : ℕ = 256 ^ r in
    let C : ℕ = 256 ^ (4 - r) in
    let N : ℕ = n * C + m / S in
    let f : 4 ≡ (4 - r) + r = omega arith in
    let size : 4294967296 ≡ C * S = ap (λ k. 256 ^ k) f ∙ pow-add 256 (4 - r) r in
    let upper : m / S < C = div_below m S C (scale_positive r) (subst (λ k. m < k) size l) in
    let low : N % C ≡ m / S = mod-mul-add n C (m / S) upper in
    let high : N / C ≡ n = div-mul-add n C (m / S) upper in
    let turn : N ≡ m / S + n * C = omega arith in
    let same : m / S % C ≡ N % C = ap (λ k. k % C) (sym low) ∙ mod-mod N C in
    ap₂ (λ a b. a ++ b) (bytes_of-same (4 - r) (m / S) N same) (ap (bytes_of s) (sym high))
    ∙ sym (two_pieces (4 - r) s N)
    ∙ ap₂ bytes_of (sym e) turn
    ∙ sym (bytes_of-rest w (m / S + n * C))

pub pairs_read : PairsAreRead
pairs_read ps h p i r w m n at next hr hw over =
    let s : ℕ = r + w - 4 in
    let in_page = word_in_page ps p i m h at in
    let there : slice_get (all_words ps) (16384 * p + i) ≡ Some m = word_of ps p i h in_page.0 ∙ at in
    let e : w ≡ (4 - r) + s = omega arith in (
      ap₂ (λ bs a. items_at bs a w) (pages_bytes-words ps) (address_by_words p i r)
          ∙ pair_read (all_words ps) (16384 * p + i) r s w m n there (next_word ps p i n h next) (omega arith) (omega arith) e
          ∙ ap Some (glued_bytes m n r s w in_page.1 (omega arith) e),
      number_of-rest w (m / 256 ^ r + n * 256 ^ (4 - r)),
    )

pub nothing_beyond : NothingBeyond
nothing_beyond ps h a w l = items_beyond (pages_bytes ps) a w (omega (arith, pages_many ps h))
