-- The words and the pages that bytes make.
use Rattle.std.proofs.Common.{◌≡◌, ◌<◌, ℕ, zero, suc, ◌*◌, List, [], ◌∷◌, ◌++◌, length, take, drop, refl, ap, ap₂, ◌∙◌, arith, length-drop}
use Rattle.std.specs.Prelude.{All}
use Rattle.std.proofs.lemmas.List.{length-take-le, take-append-drop}
use Rattle.std.proofs.lemmas.List.Elements.{All-take, All-drop}
use Rattle.wm_ast.specs.Store.{page_size}
use Rattle.wm_ast.proofs.StorageLaws.{bytes_of-number_of}
use Rattle.cc_page.specs.Pages.{AreWords, ArePages, words_bytes, pages_bytes, words_of, pages_of}
use Rattle.cc_page.specs.Law.{BytesMakePages}

abbrev is_byte : ℕ → Type 0
is_byte b = b < 256

-- four bytes a word
record MakeWords (bs : List ℕ) (n : ℕ) : Type 0 where
  words : AreWords (words_of bs)
  bytes : words_bytes (words_of bs) ≡ bs
  many : length (words_of bs) ≡ n

make_words : (bs : List ℕ) (n : ℕ) → All is_byte bs → length bs ≡ 4 * n → MakeWords bs n
make_words [] n small h = record { words = tt; bytes = refl; many = omega arith }
make_words (a ∷ []) n small h = absurd (omega arith)
make_words (a ∷ (b ∷ [])) n small h = absurd (omega arith)
make_words (a ∷ (b ∷ (c ∷ []))) n small h = absurd (omega arith)
make_words (a ∷ (b ∷ (c ∷ (d ∷ bs)))) zero small h = absurd (omega arith)
make_words (a ∷ (b ∷ (c ∷ (d ∷ bs)))) (suc n) small h =
    let word : List ℕ = a ∷ (b ∷ (c ∷ (d ∷ []))) in
    let first : All is_byte word = All-take is_byte 4 (a ∷ (b ∷ (c ∷ (d ∷ bs)))) small in
    let above : All is_byte bs = All-drop is_byte 4 (a ∷ (b ∷ (c ∷ (d ∷ bs)))) small in
    let least : a < 256 = first 0 a (omega arith) in
    let second : b < 256 = first 1 a (omega arith) in
    let third : c < 256 = first 2 a (omega arith) in
    let fourth : d < 256 = first 3 a (omega arith) in
    let rest : MakeWords bs n = make_words bs n above (omega arith) in
    record {
      words = (omega (arith, least, second, third, fourth), rest.words);
      bytes = ap₂ (λ u v. u ++ v) (bytes_of-number_of word first) rest.bytes;
      many = ap suc rest.many;
    }

-- page by page
pub record MakePages (bs : List ℕ) (n : ℕ) : Type 0 where
  pub pages : ArePages (pages_of n bs)
  pub bytes : pages_bytes (pages_of n bs) ≡ bs
  pub many : length (pages_of n bs) ≡ n

make_pages : (n : ℕ) (bs : List ℕ) → All is_byte bs → length bs ≡ page_size * n → MakePages bs n
make_pages zero [] small h = record { pages = tt; bytes = refl; many = refl }
make_pages zero (b ∷ bs) small h = absurd (omega arith)
make_pages (suc n) bs small h =
    let front : List ℕ = take page_size bs in
    let back : List ℕ = drop page_size bs in
    let size : length front ≡ 4 * 16384 = length-take-le page_size bs (omega arith) in
    let left : length back ≡ page_size * n = omega (arith, length-drop page_size bs) in
    let words : MakeWords front 16384 = make_words front 16384 (All-take is_byte page_size bs small) size in
    let rest : MakePages back n = make_pages n back (All-drop is_byte page_size bs small) left in
    record {
      pages = ((words.many, words.words), rest.pages);
      bytes = ap₂ (λ u v. u ++ v) words.bytes rest.bytes ∙ take-append-drop page_size bs;
      many = ap suc rest.many;
    }

pub bytes_make_pages : BytesMakePages
bytes_make_pages bs n small h =
    let made : MakePages bs n = make_pages n bs small h in
    (made.pages, made.bytes, made.many)
