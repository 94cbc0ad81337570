-- Bytes written into pages.
use Rattle.std.proofs.Common.{◌≡◌, ℕ, suc, ◌+◌, ◌*◌, ◌-◌, ◌/◌, ◌^◌, List, Some, sym, ap, ap₂, ◌∙◌, arith}
use Rattle.std.specs.Prelude.{slice_get, slice_set}
use Rattle.wm_ast.specs.Storage.{bytes_of}
use Rattle.wm_ast.specs.Store.{overwritten}
use Rattle.cc_page.specs.Pages.{ArePages, words_bytes, with_word, next_page, next_place, with_part, first_with, second_with}
use Rattle.cc_page.specs.Law.{WordsAreWritten, PairsAreWritten}
use Rattle.cc_page.proofs.ByteLemmas.{with_part-below, first_with-below}
use Rattle.cc_page.proofs.PageLemmas.{all_words, pages_bytes-words, word_of, with_word-words, word_in_page, are_pages_with}
use Rattle.cc_page.proofs.ReadLemmas.{address_by_words, next_by_words, next_word}
use Rattle.cc_page.proofs.WordLemmas.{word_written, pair_written}

pub words_written : WordsAreWritten
words_written ps h p i r w m x at l =
    let in_page = word_in_page ps p i m h at in
    let there : slice_get (all_words ps) (16384 * p + i) ≡ Some m = word_of ps p i h in_page.0 ∙ at in
    let v : ℕ = with_part m r w x in
    let e : 4 ≡ r + (w + (4 - (r + w))) = omega arith in (
      are_pages_with ps p i v h (with_part-below 4 r w (4 - (r + w)) m x e in_page.1),
      ap₂ (λ bs a. overwritten bs a (bytes_of w x)) (pages_bytes-words ps) (address_by_words p i r)
          ∙ word_written (all_words ps) (16384 * p + i) r w m x there l
          ∙ ap words_bytes (sym (with_word-words ps p i v h in_page.0))
          ∙ sym (pages_bytes-words (with_word ps p i v)),
    )

pub pairs_written : PairsAreWritten
pairs_written ps h p i r w m n x at next hr hw over =
    let s : ℕ = r + w - 4 in
    let j : ℕ = 16384 * p + i in
    let u : ℕ = first_with m r x in
    let v : ℕ = second_with n r w x in
    let in_page = word_in_page ps p i m h at in
    let in_next = word_in_page ps (next_page p i) (next_place i) n h next in
    let there : slice_get (all_words ps) j ≡ Some m = word_of ps p i h in_page.0 ∙ at in
    let e : w ≡ (4 - r) + s = omega arith in
    let f : 4 ≡ 0 + (s + (4 - s)) = omega arith in
    let qs : List (List ℕ) = with_word ps (next_page p i) (next_place i) v in
    let are : ArePages qs = are_pages_with ps (next_page p i) (next_place i) v h (with_part-below 4 0 s (4 - s) n (x / 256 ^ (4 - r)) f in_next.1) in
    let second : all_words qs ≡ slice_set (all_words ps) (suc j) v =
    with_word-words ps (next_page p i) (next_place i) v h in_next.0 ∙ ap (λ k. slice_set (all_words ps) k v) (next_by_words p i) in
    let both : all_words (with_word qs p i u) ≡ slice_set (slice_set (all_words ps) (suc j) v) j u =
    with_word-words qs p i u are in_page.0 ∙ ap (λ l. slice_set l j u) second in (
      are_pages_with qs p i u are (first_with-below r m x (omega arith)),
      ap₂ (λ bs a. overwritten bs a (bytes_of w x)) (pages_bytes-words ps) (address_by_words p i r)
          ∙ pair_written (all_words ps) j r s w m n x there (next_word ps p i n h next) (omega arith) (omega arith) e
          ∙ ap words_bytes (sym both)
          ∙ sym (pages_bytes-words (with_word qs p i u)),
    )
