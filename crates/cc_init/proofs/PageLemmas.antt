-- The memory as the code makes it: its words four bytes at a time, and each page by its bytes.
use Rattle.std.proofs.Common.{◌≡◌, ℕ, zero, suc, ◌+◌, ◌-◌, ◌*◌, ◌/◌, ◌<◌, ◌≤◌, min, List, [], ◌∷◌, length, map, take, drop, Bool, Some, None, refl, sym, ap, ◌∙◌, arith}
use Rattle.std.specs.Prelude.{ℤ, option_map, slice_get, slice_range}
use Rattle.std.specs.Simd.{first_chunks}
use Rattle.std.specs.Str.{bytes_eq}
use Rattle.std.proofs.lemmas.List.{drop-drop, drop_min, length-drop, take_min}
use Rattle.wm_ast.specs.Store.{page_size}
use Rattle.cc_page.specs.Pages.{pages_of, signed_word, words_of}
use Rattle.cc_init.specs.Init.{is_repeated, page_bytes}
use Rattle.cc_init.specs.steps.Instantiating.{word}

-- ---- words

pub words_by_fours : (bs : List ℕ) → map word (first_chunks 4 (length bs / 4) bs) ≡ map signed_word (words_of bs)
words_by_fours [] = refl
words_by_fours (a ∷ []) = refl
words_by_fours (a ∷ b ∷ []) = refl
words_by_fours (a ∷ b ∷ c ∷ []) = refl
words_by_fours (a ∷ b ∷ c ∷ d ∷ bs) =
    let more : suc (suc (suc (suc (length bs)))) / 4 ≡ suc (length bs / 4) = omega arith in
    ap (λ n. map word (first_chunks 4 n (a ∷ b ∷ c ∷ d ∷ bs))) more ∙ ap (λ l. word (a ∷ b ∷ c ∷ d ∷ []) ∷ l) (words_by_fours bs)

-- ---- pages

no_page : (n k : ℕ) (bs : List ℕ) → n ≤ k → slice_get (pages_of n bs) k ≡ None
no_page zero k bs h = refl
no_page (suc n) zero bs h = absurd (omega arith)
no_page (suc n) (suc k) bs h = no_page n k (drop page_size bs) (omega arith)

pub page_beyond : (n k : ℕ) (bs : List ℕ) → n ≤ k → None ≡ option_map (map signed_word) (slice_get (pages_of n bs) k)
page_beyond n k bs h = ap (option_map (map signed_word)) (sym (no_page n k bs h))

pub page_found : (n k : ℕ) (bs : List ℕ) → k < n → slice_get (pages_of n bs) k ≡ Some (words_of (take page_size (drop (page_size * k) bs)))
page_found zero k bs h = absurd (omega arith)
page_found (suc n) zero bs h = refl
page_found (suc n) (suc k) bs h =
    let more : page_size + page_size * k ≡ page_size * suc k = omega arith in
    page_found n k (drop page_size bs) (omega arith) ∙ ap (λ l. Some (words_of (take page_size l))) (drop-drop (page_size * k) page_size bs ∙ ap (λ j. drop j bs) more)

pub page_is : (n k start : ℕ) (bs here : List ℕ) (words : List ℤ) → k < n → start ≡ page_size * k → here ≡ slice_range bs start (start + page_size) → words ≡ map signed_word (words_of here)
    → Some words ≡ option_map (map signed_word) (slice_get (pages_of n bs) k)
page_is n k start bs here words h at e w =
    let size : start + page_size - start ≡ page_size = omega arith in
    ap Some (w ∙ ap (λ l. map signed_word (words_of l)) (e ∙ ap (λ j. take j (drop start bs)) size ∙ ap (λ j. take page_size (drop j bs)) at))
    ∙ ap (option_map (map signed_word)) (sym (page_found n k bs h))

-- the bytes of a page, as far as there are any
pub bytes_of_page : (bs : List ℕ) (page start end : ℕ) → start ≡ min (length bs) (page_size * page) → end ≡ min (length bs) (start + page_size)
    → take (end - start) (drop start bs) ≡ page_bytes bs page
bytes_of_page bs page start end s e =
    let one : start ≡ min (page_size * page) (length bs) = omega arith in
    let here : drop start bs ≡ drop (page_size * page) bs = ap (λ i. drop i bs) one ∙ drop_min (page_size * page) bs in
    let rest : length (drop start bs) ≡ length bs - start = length-drop start bs in
    let count : end - start ≡ min page_size (length (drop start bs)) = omega arith in
    ap (λ n. take n (drop start bs)) count ∙ take_min page_size (drop start bs) ∙ ap (take page_size) here

pub repeated_is : (bs : List ℕ) (page before : ℕ) (b : Bool) (one other : List ℕ) → (1 ≤ page) × (before ≡ page - 1) → one ≡ page_bytes bs before
    → other ≡ page_bytes bs page → b ≡ bytes_eq one other → b ≡ is_repeated bs page
repeated_is bs page before b one other h e f g =
    let some : 1 ≤ page = h.0 in
    let less : before ≡ page - 1 = h.1 in
    let p : page ≡ suc before = omega arith in
    g ∙ ap (λ xs. bytes_eq xs other) e ∙ ap (bytes_eq (page_bytes bs before)) (f ∙ ap (page_bytes bs) p)
    ∙ ap (is_repeated bs) (sym p)
