-- Bytes of words, one behind another: read and written at the place of a word, or over two of them.
use Rattle.std.proofs.Common.{◌≡◌, ◌≤◌, ℕ, suc, ◌+◌, ◌*◌, ◌-◌, ◌/◌, ◌^◌, List, [], ◌∷◌, ◌++◌, length, Some, refl, sym, ap, ap₂, ◌∙◌, arith}
use Rattle.std.proofs.Common.{length-append, append_assoc, div-one}
use Rattle.std.specs.Prelude.{slice_get, slice_set}
use Rattle.wm_ast.specs.Storage.{bytes_of}
use Rattle.wm_ast.specs.Store.{items_at, overwritten}
use Rattle.wm_ast.proofs.StorageLaws.{bytes_of-length}
use Rattle.cc_page.specs.Pages.{words_bytes, with_part, first_with}
use Rattle.cc_page.proofs.ByteLemmas.{two_pieces, three_pieces, with_part-bytes, first_with-bytes}
use Rattle.cc_page.proofs.ListLemmas.{items_between, others_between, OneItem, one_item, TwoItems, two_items}

pub words_bytes-append : (a b : List ℕ) → words_bytes (a ++ b) ≡ words_bytes a ++ words_bytes b
words_bytes-append [] b = refl
words_bytes-append (m ∷ a) b =
    ap (λ l. bytes_of 4 m ++ l) (words_bytes-append a b) ∙ sym (append_assoc (bytes_of 4 m) (words_bytes a) (words_bytes b))

pub words_bytes-length : (ms : List ℕ) → length (words_bytes ms) ≡ 4 * length ms
words_bytes-length [] = refl
words_bytes-length (m ∷ ms) = omega (arith, words_bytes-length ms)

regrouped : (a b c d e : List ℕ) → a ++ ((b ++ (c ++ d)) ++ e) ≡ (a ++ b) ++ (c ++ (d ++ e))
regrouped a b c d e = simp append_assoc

-- what goes before the bytes that are meant
before_place : (ms : List ℕ) (j r m : ℕ) → length ms ≡ j → length (words_bytes ms ++ bytes_of r m) ≡ 4 * j + r
before_place ms j r m h =
    omega (arith, length-append (words_bytes ms) (bytes_of r m), words_bytes-length ms, bytes_of-length r m)

-- ---- in one word

-- Its bytes, in three pieces, with what goes before the word and what follows.
word_pieces : (b a : List ℕ) (m r w q : ℕ) → 4 ≡ r + (w + q)
    → words_bytes (b ++ (m ∷ a))
    ≡ (words_bytes b ++ bytes_of r m) ++ (bytes_of w (m / 256 ^ r) ++ (bytes_of q (m / 256 ^ r / 256 ^ w) ++ words_bytes a))
word_pieces b a m r w q h =
    words_bytes-append b (m ∷ a)
    ∙ ap (λ l. words_bytes b ++ (l ++ words_bytes a)) (three_pieces 4 r w q m h)
    ∙ regrouped (words_bytes b) (bytes_of r m) (bytes_of w (m / 256 ^ r)) (bytes_of q (m / 256 ^ r / 256 ^ w)) (words_bytes a)

changed_pieces : (b a : List ℕ) (m r w q x : ℕ) → 4 ≡ r + (w + q)
    → words_bytes (b ++ (with_part m r w x ∷ a))
    ≡ (words_bytes b ++ bytes_of r m) ++ (bytes_of w x ++ (bytes_of q (m / 256 ^ r / 256 ^ w) ++ words_bytes a))
changed_pieces b a m r w q x h =
    words_bytes-append b (with_part m r w x ∷ a)
    ∙ ap (λ l. words_bytes b ++ (l ++ words_bytes a)) (with_part-bytes 4 r w q m x h)
    ∙ regrouped (words_bytes b) (bytes_of r m) (bytes_of w x) (bytes_of q (m / 256 ^ r / 256 ^ w)) (words_bytes a)

pub word_read : (ms : List ℕ) (j r w m : ℕ) → slice_get ms j ≡ Some m → r + w ≤ 4
    → items_at (words_bytes ms) (4 * j + r) w ≡ Some (bytes_of w (m / 256 ^ r))
word_read ms j r w m g l =
    let o : OneItem ms j m = one_item ms j m g in
    let q : ℕ = 4 - (r + w) in
    let e : 4 ≡ r + (w + q) = omega arith in
    ap (λ bs. items_at bs (4 * j + r) w) (ap words_bytes o.is ∙ word_pieces o.before o.after m r w q e)
    ∙ items_between (words_bytes o.before ++ bytes_of r m) (bytes_of w (m / 256 ^ r)) (bytes_of q (m / 256 ^ r / 256 ^ w) ++ words_bytes o.after)
    (4 * j + r) w (before_place o.before j r m o.place) (bytes_of-length w (m / 256 ^ r))

pub word_written : (ms : List ℕ) (j r w m x : ℕ) → slice_get ms j ≡ Some m → r + w ≤ 4
    → overwritten (words_bytes ms) (4 * j + r) (bytes_of w x) ≡ words_bytes (slice_set ms j (with_part m r w x))
word_written ms j r w m x g l =
    let o : OneItem ms j m = one_item ms j m g in
    let q : ℕ = 4 - (r + w) in
    let e : 4 ≡ r + (w + q) = omega arith in
    ap (λ bs. overwritten bs (4 * j + r) (bytes_of w x)) (ap words_bytes o.is ∙ word_pieces o.before o.after m r w q e)
    ∙ others_between (words_bytes o.before ++ bytes_of r m) (bytes_of w (m / 256 ^ r)) (bytes_of q (m / 256 ^ r / 256 ^ w) ++ words_bytes o.after)
    (bytes_of w x) (4 * j + r) (before_place o.before j r m o.place) (bytes_of-length w (m / 256 ^ r) ∙ sym (bytes_of-length w x))
    ∙ sym (ap words_bytes (o.change (with_part m r w x)) ∙ changed_pieces o.before o.after m r w q x e)

-- ---- over two words

pair_regrouped : (a b c d e f : List ℕ) → a ++ ((b ++ c) ++ ((d ++ e) ++ f)) ≡ (a ++ b) ++ ((c ++ d) ++ (e ++ f))
pair_regrouped a b c d e f = simp append_assoc

-- The bytes that are meant are the upper ones of the first word and the lower ones of the second.
pair_pieces : (b a : List ℕ) (m n r s : ℕ) → r ≤ 4 → s ≤ 4
    → words_bytes (b ++ (m ∷ (n ∷ a)))
    ≡ (words_bytes b ++ bytes_of r m) ++ ((bytes_of (4 - r) (m / 256 ^ r) ++ bytes_of s n) ++ (bytes_of (4 - s) (n / 256 ^ s) ++ words_bytes a))
pair_pieces b a m n r s hr hs =
    let i : 4 ≡ r + (4 - r) = omega arith in
    let j : 4 ≡ s + (4 - s) = omega arith in
    words_bytes-append b (m ∷ (n ∷ a))
    ∙ ap₂ (λ u v. words_bytes b ++ (u ++ (v ++ words_bytes a)))
    (ap (λ k. bytes_of k m) i ∙ two_pieces r (4 - r) m) (ap (λ k. bytes_of k n) j ∙ two_pieces s (4 - s) n)
    ∙ pair_regrouped (words_bytes b) (bytes_of r m) (bytes_of (4 - r) (m / 256 ^ r)) (bytes_of s n) (bytes_of (4 - s) (n / 256 ^ s)) (words_bytes a)

-- A word with others for its lower bytes.
lower_changed : (n s y : ℕ) → s ≤ 4 → bytes_of 4 (with_part n 0 s y) ≡ bytes_of s y ++ bytes_of (4 - s) (n / 256 ^ s)
lower_changed n s y h =
    let e : 4 ≡ 0 + (s + (4 - s)) = omega arith in
    with_part-bytes 4 0 s (4 - s) n y e ∙ ap (λ k. bytes_of s y ++ bytes_of (4 - s) (k / 256 ^ s)) (div-one n)

pair_changed : (b a : List ℕ) (m n r s x y : ℕ) → r ≤ 4 → s ≤ 4
    → words_bytes (b ++ (first_with m r x ∷ (with_part n 0 s y ∷ a)))
    ≡ (words_bytes b ++ bytes_of r m) ++ ((bytes_of (4 - r) x ++ bytes_of s y) ++ (bytes_of (4 - s) (n / 256 ^ s) ++ words_bytes a))
pair_changed b a m n r s x y hr hs =
    words_bytes-append b (first_with m r x ∷ (with_part n 0 s y ∷ a))
    ∙ ap₂ (λ u v. words_bytes b ++ (u ++ (v ++ words_bytes a))) (first_with-bytes r m x hr) (lower_changed n s y hs)
    ∙ pair_regrouped (words_bytes b) (bytes_of r m) (bytes_of (4 - r) x) (bytes_of s y) (bytes_of (4 - s) (n / 256 ^ s)) (words_bytes a)

pair_length : (a b m n w : ℕ) → w ≡ a + b → length (bytes_of a m ++ bytes_of b n) ≡ w
pair_length a b m n w h = omega (arith, length-append (bytes_of a m) (bytes_of b n), bytes_of-length a m, bytes_of-length b n)

pub pair_read : (ms : List ℕ) (j r s w m n : ℕ) → slice_get ms j ≡ Some m → slice_get ms (suc j) ≡ Some n → r ≤ 4 → s ≤ 4
    → w ≡ (4 - r) + s → items_at (words_bytes ms) (4 * j + r) w ≡ Some (bytes_of (4 - r) (m / 256 ^ r) ++ bytes_of s n)
pair_read ms j r s w m n g h hr hs e =
    let o : TwoItems ms j m n = two_items ms j m n g h in
    ap (λ bs. items_at bs (4 * j + r) w) (ap words_bytes o.is ∙ pair_pieces o.before o.after m n r s hr hs)
    ∙ items_between (words_bytes o.before ++ bytes_of r m) (bytes_of (4 - r) (m / 256 ^ r) ++ bytes_of s n)
    (bytes_of (4 - s) (n / 256 ^ s) ++ words_bytes o.after) (4 * j + r) w (before_place o.before j r m o.place)
    (pair_length (4 - r) s (m / 256 ^ r) n w e)

pub pair_written : (ms : List ℕ) (j r s w m n x : ℕ) → slice_get ms j ≡ Some m → slice_get ms (suc j) ≡ Some n → r ≤ 4 → s ≤ 4
    → w ≡ (4 - r) + s → overwritten (words_bytes ms) (4 * j + r) (bytes_of w x)
    ≡ words_bytes (slice_set (slice_set ms (suc j) (with_part n 0 s (x / 256 ^ (4 - r)))) j (first_with m r x))
pair_written ms j r s w m n x g h hr hs e =
    let o : TwoItems ms j m n = two_items ms j m n g h in
    let y : ℕ = x / 256 ^ (4 - r) in
    let before : List ℕ = words_bytes o.before ++ bytes_of r m in
    let behind : List ℕ = bytes_of (4 - s) (n / 256 ^ s) ++ words_bytes o.after in
    let new : bytes_of w x ≡ bytes_of (4 - r) x ++ bytes_of s y = ap (λ k. bytes_of k x) e ∙ two_pieces (4 - r) s x in
    ap (λ bs. overwritten bs (4 * j + r) (bytes_of w x)) (ap words_bytes o.is ∙ pair_pieces o.before o.after m n r s hr hs)
    ∙ others_between before (bytes_of (4 - r) (m / 256 ^ r) ++ bytes_of s n) behind (bytes_of w x) (4 * j + r) (before_place o.before j r m o.place)
    (pair_length (4 - r) s (m / 256 ^ r) n w e ∙ sym (bytes_of-length w x))
    ∙ ap (λ l. before ++ (l ++ behind)) new
    ∙ sym (ap words_bytes (o.change (first_with m r x) (with_part n 0 s y)) ∙ pair_changed o.before o.after m n r s x y hr hs)
