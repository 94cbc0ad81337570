-- Eight bytes as two words.
use Rattle.std.proofs.Common.{◌≡◌, ℕ, zero, suc, ◌+◌, ◌*◌, ◌/◌, ◌%◌, ◌^◌, ◌<◌, ◌≤◌, List, [], ◌∷◌, ◌++◌, length, take, drop, All, Some, None, sym, ap, ap₂, ◌∙◌, refl, subst, arith, ⊎_elim}
use Rattle.std.proofs.Common.{length-append, append_assoc}
use Rattle.std.specs.Prelude.{if◌then◌else◌}
use Rattle.std.proofs.lemmas.Bool.{cases_lt, lt-ltb, le-ltb}
use Rattle.std.proofs.lemmas.List.{length-take-le, length-drop, take-append-drop, drop-take}
use Rattle.std.proofs.lemmas.List.Elements.{All-nil, All-append, All-take, All-drop}
use native.Mathlib.Nat.{mod-lt}
use Rattle.wm_ast.specs.Storage.{bytes_of, number_of}
use Rattle.wm_ast.specs.Store.{items_at, overwritten}
use Rattle.wm_ast.proofs.StorageLaws.{bytes_are_below, bytes_of-number_of, number_of-bytes_of}
use Rattle.cc_page.specs.Pages.{words_bytes, pages_bytes}
use Rattle.cc_page.proofs.ByteLemmas.{scale_positive, two_pieces, bytes_of-rest}
use Rattle.cc_page.proofs.ListLemmas.{others_between}

-- ---- bytes are below 256

words_small : (ms : List ℕ) → All (λ b. b < 256) (words_bytes ms)
words_small [] = All-nil (λ b. b < 256)
words_small (m ∷ ms) = All-append (λ b. b < 256) (bytes_of 4 m) (words_bytes ms) (bytes_are_below 4 m) (words_small ms)

bytes_small : (ps : List (List ℕ)) → All (λ b. b < 256) (pages_bytes ps)
bytes_small [] = All-nil (λ b. b < 256)
bytes_small (p ∷ ps) = All-append (λ b. b < 256) (words_bytes p) (pages_bytes ps) (words_small p) (bytes_small ps)

number_below : (bs : List ℕ) → All (λ b. b < 256) bs → number_of bs < 256 ^ length bs
number_below bs small =
    let e : number_of bs ≡ number_of bs % 256 ^ length bs = ap number_of (sym (bytes_of-number_of bs small)) ∙ number_of-bytes_of (length bs) (number_of bs) in
    let l : number_of bs % 256 ^ length bs < 256 ^ length bs = mod-lt (number_of bs) (scale_positive (length bs)) in
    omega arith

-- ---- what stands at an address

record Read (xs : List ℕ) (a count : ℕ) (bytes : List ℕ) : Type 0 where
  within : a + count ≤ length xs
  is : bytes ≡ take count (drop a xs)

read_is : (xs : List ℕ) (a count : ℕ) (bytes : List ℕ) → items_at xs a count ≡ Some bytes → Read xs a count bytes
read_is xs a count bytes e = ⊎_elim beyond within (cases_lt (length xs) (a + count))
  where
    beyond : length xs < a + count → Read xs a count bytes
    beyond l = absurd (let y : None ≡ Some bytes = sym (ap (λ b. if b then None else Some (take count (drop a xs))) (lt-ltb (length xs) (a + count) l)) ∙ e in cc)

    within : a + count ≤ length xs → Read xs a count bytes
    within l =
        let y : Some (take count (drop a xs)) ≡ Some bytes = sym (ap (λ b. if b then None else Some (take count (drop a xs))) (le-ltb (length xs) (a + count) l)) ∙ e in
        record { within = l; is = cc }

pub reads : (xs : List ℕ) (a count : ℕ) → a + count ≤ length xs → items_at xs a count ≡ Some (take count (drop a xs))
reads xs a count l = ap (λ b. if b then None else Some (take count (drop a xs))) (le-ltb (length xs) (a + count) l)

pub reads_none : (xs : List ℕ) (a count b few : ℕ) → items_at xs a count ≡ None → a + count ≤ b + few → items_at xs b few ≡ None
reads_none xs a count b few e l = ⊎_elim beyond within (cases_lt (length xs) (a + count))
  where
    beyond : length xs < a + count → items_at xs b few ≡ None
    beyond k = ap (λ c. if c then None else Some (take few (drop b xs))) (lt-ltb (length xs) (b + few) (omega arith))

    within : a + count ≤ length xs → items_at xs b few ≡ None
    within k = absurd (let y : Some (take count (drop a xs)) ≡ None = sym (reads xs a count k) ∙ e in cc)

-- where so many bytes stand there are so many
pub reads_within : (xs : List ℕ) (a count : ℕ) (bytes : List ℕ) → items_at xs a count ≡ Some bytes → a + count ≤ length xs
reads_within xs a count bytes e = (read_is xs a count bytes e).within

-- the number of few bytes of the memory
pub number_small : (ps : List (List ℕ)) (a count : ℕ) (bytes : List ℕ) → items_at (pages_bytes ps) a count ≡ Some bytes → number_of bytes < 256 ^ count
number_small ps a count bytes e =
    let xs : List ℕ = pages_bytes ps in
    let r = read_is xs a count bytes e in
    let w = r.within in
    let small : All (λ b. b < 256) (take count (drop a xs)) = All-take (λ b. b < 256) count (drop a xs) (All-drop (λ b. b < 256) a xs (bytes_small ps)) in
    let long : length (take count (drop a xs)) ≡ count = length-take-le count (drop a xs) (omega (arith, length-drop a xs)) in
    subst (λ n. number_of bytes < 256 ^ n) (ap length r.is ∙ long) (number_below bytes (subst (All (λ b. b < 256)) (sym r.is) small))

-- ---- eight bytes

first_four : (l : List ℕ) → take 4 (take 8 l) ≡ take 4 l
first_four [] = refl
first_four (a ∷ []) = refl
first_four (a ∷ (b ∷ [])) = refl
first_four (a ∷ (b ∷ (c ∷ []))) = refl
first_four (a ∷ (b ∷ (c ∷ (d ∷ l)))) = refl

four_further : {A : Type 0} (a : ℕ) (xs : List A) → drop 4 (drop a xs) ≡ drop (a + 4) xs
four_further zero xs = refl
four_further {A = A} (suc a) [] = let e : suc (a + 4) ≡ suc a + 4 = omega arith in ap (λ n. drop n []) e
four_further (suc a) (x ∷ xs) = let e : suc (a + 4) ≡ suc a + 4 = omega arith in four_further a xs ∙ ap (λ n. drop n (x ∷ xs)) e

by_four : (bs : List ℕ) → 4 ≤ length bs → number_of bs ≡ number_of (take 4 bs) + 4294967296 * number_of (drop 4 bs)
by_four [] h = absurd (omega arith)
by_four (a ∷ []) h = absurd (omega arith)
by_four (a ∷ (b ∷ [])) h = absurd (omega arith)
by_four (a ∷ (b ∷ (c ∷ []))) h = absurd (omega arith)
by_four (a ∷ (b ∷ (c ∷ (d ∷ bs)))) h = omega arith

-- the words of which they are
pub record Two (ps : List (List ℕ)) (a : ℕ) (bytes : List ℕ) : Type 0 where
  pub low : List ℕ
  pub high : List ℕ
  pub low_there : items_at (pages_bytes ps) a 4 ≡ Some low
  pub high_there : items_at (pages_bytes ps) (a + 4) 4 ≡ Some high
  pub low_small : number_of low < 4294967296
  pub high_small : number_of high < 4294967296
  pub number : number_of bytes ≡ number_of low + 4294967296 * number_of high

pub two_words : (ps : List (List ℕ)) (a : ℕ) (bytes : List ℕ) → items_at (pages_bytes ps) a 8 ≡ Some bytes → Two ps a bytes
two_words ps a bytes e =
    let xs : List ℕ = pages_bytes ps in
    let r = read_is xs a 8 bytes e in
    let w = r.within in
    let l : items_at xs a 4 ≡ Some (take 4 (drop a xs)) = reads xs a 4 (omega arith) in
    let h : items_at xs (a + 4) 4 ≡ Some (take 4 (drop (a + 4) xs)) = reads xs (a + 4) 4 (omega arith) in
    let d : drop 4 (take 8 (drop a xs)) ≡ take 4 (drop (a + 4) xs) = drop-take 4 4 (drop a xs) ∙ ap (take 4) (four_further a xs) in
    let long : length (take 8 (drop a xs)) ≡ 8 = length-take-le 8 (drop a xs) (omega (arith, length-drop a xs)) in
    record {
      low = take 4 (drop a xs);
      high = take 4 (drop (a + 4) xs);
      low_there = l;
      high_there = h;
      low_small = number_small ps a 4 _ l;
      high_small = number_small ps (a + 4) 4 _ h;
      number = ap number_of r.is ∙ by_four (take 8 (drop a xs)) (omega arith) ∙ ap₂ (λ x y. number_of x + 4294967296 * number_of y) (first_four (drop a xs)) d;
    }

-- ---- others in their place

between_twice : (a b c d low high : List ℕ) (n : ℕ) → length a ≡ n → length b ≡ 4 → length c ≡ 4 → length low ≡ 4 → length high ≡ 4
    → overwritten (overwritten (a ++ (b ++ (c ++ d))) (n + 4) high) n low ≡ overwritten (a ++ (b ++ (c ++ d))) n (low ++ high)
between_twice a b c d low high n la lb lc ll lh =
    let first : overwritten (a ++ (b ++ (c ++ d))) (n + 4) high ≡ a ++ (b ++ (high ++ d)) =
    ap (λ x. overwritten x (n + 4) high) (sym (append_assoc a b (c ++ d)))
    ∙ others_between (a ++ b) c d high (n + 4) (omega (arith, length-append a b)) (omega arith)
    ∙ append_assoc a b (high ++ d) in
    ap (λ x. overwritten x n low) first
    ∙ others_between a b (high ++ d) low n la (omega arith)
    ∙ ap (λ x. a ++ x) (sym (append_assoc low high d))
    ∙ sym (others_between a (b ++ c) d (low ++ high) n la (omega (arith, length-append b c, length-append low high)))
    ∙ ap (λ x. overwritten (a ++ x) n (low ++ high)) (append_assoc b c d)

-- the second word first, and then the first one
pub written_twice : (xs : List ℕ) (n : ℕ) (low high : List ℕ) → n + 8 ≤ length xs → length low ≡ 4 → length high ≡ 4
    → overwritten (overwritten xs (n + 4) high) n low ≡ overwritten xs n (low ++ high)
written_twice xs n low high l ll lh =
    let a : List ℕ = take n xs in
    let b : List ℕ = take 4 (drop n xs) in
    let c : List ℕ = take 4 (drop 4 (drop n xs)) in
    let d : List ℕ = drop 4 (drop 4 (drop n xs)) in
    let e : a ++ (b ++ (c ++ d)) ≡ xs =
    ap (λ x. a ++ (b ++ x)) (take-append-drop 4 (drop 4 (drop n xs))) ∙ ap (λ x. a ++ x) (take-append-drop 4 (drop n xs)) ∙ take-append-drop n xs in
    let la : length a ≡ n = length-take-le n xs (omega arith) in
    let lb : length b ≡ 4 = length-take-le 4 (drop n xs) (omega (arith, length-drop n xs)) in
    let lc : length c ≡ 4 = length-take-le 4 (drop 4 (drop n xs)) (omega (arith, length-drop n xs, length-drop 4 (drop n xs))) in
    subst (λ x. overwritten (overwritten x (n + 4) high) n low ≡ overwritten x n (low ++ high)) e (between_twice a b c d low high n la lb lc ll lh)

pub written_length : (xs others : List ℕ) (n : ℕ) → n + length others ≤ length xs → length (overwritten xs n others) ≡ length xs
written_length xs others n l =
    omega (arith, length-append (take n xs) (others ++ drop (n + length others) xs), length-append others (drop (n + length others) xs), length-take-le n xs (omega arith), length-drop (n + length others) xs)

-- the bytes of an integer are those of its halves
pub eight_bytes : (n : ℕ) → bytes_of 8 n ≡ bytes_of 4 (n % 4294967296) ++ bytes_of 4 (n / 4294967296)
eight_bytes n = two_pieces 4 4 n ∙ ap (λ x. x ++ bytes_of 4 (n / 4294967296)) (sym (bytes_of-rest 4 n))
