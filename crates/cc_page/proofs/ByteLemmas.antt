-- The bytes of numbers, in pieces; and of numbers some of whose bytes are those of another one.
use Rattle.std.proofs.Common.{◌≡◌, ◌<◌, ◌≤◌, ℕ, zero, suc, ◌+◌, ◌*◌, ◌-◌, ◌/◌, ◌%◌, ◌^◌, ◌∷◌, ◌++◌, sym, ap, ap₂, ◌∙◌, subst, arith}
use Rattle.std.proofs.Common.{zero-add, suc-add, div-one, add-mul, mul_comm, div-add-mod', mod-lt}
use Rattle.std.proofs.lemmas.Nat.{pow-add, div-mul-add, mod-mul-add, mul-add-lt, div_below}
use native.Mathlib.Nat.{pow-succ', div-div-eq-div-mul, one-le-pow, mod-mod}
use Rattle.wm_ast.specs.Storage.{bytes_of, number_of}
use Rattle.wm_ast.proofs.StorageLaws.{bytes_of-length, bytes_are_below, number_of-bytes_of, bytes_of-number_of}
use Rattle.cc_page.specs.Pages.{with_part, first_with}

pub scale_positive : (k : ℕ) → 0 < 256 ^ k
scale_positive k = one-le-pow k 256 (omega arith)

rest_below : (n k : ℕ) → n % 256 ^ k < 256 ^ k
rest_below n k = mod-lt n (scale_positive k)

-- the low bytes are those of the rest
pub bytes_of-rest : (k n : ℕ) → bytes_of k (n % 256 ^ k) ≡ bytes_of k n
bytes_of-rest k n =
    ap₂ bytes_of (sym (bytes_of-length k n)) (sym (number_of-bytes_of k n)) ∙ bytes_of-number_of (bytes_of k n) (bytes_are_below k n)

pub bytes_of-same : (k m n : ℕ) → m % 256 ^ k ≡ n % 256 ^ k → bytes_of k m ≡ bytes_of k n
bytes_of-same k m n h = sym (bytes_of-rest k m) ∙ ap (bytes_of k) h ∙ bytes_of-rest k n

-- the bytes of a part are the number
pub number_of-rest : (k n : ℕ) → number_of (bytes_of k (n % 256 ^ k)) ≡ n % 256 ^ k
number_of-rest k n = number_of-bytes_of k (n % 256 ^ k) ∙ mod-mod n (256 ^ k)

-- in two pieces
pub two_pieces : (a b n : ℕ) → bytes_of (a + b) n ≡ bytes_of a n ++ bytes_of b (n / 256 ^ a)
two_pieces zero b n = ap₂ bytes_of (zero-add b) (sym (div-one n))
two_pieces (suc a) b n =
    ap (λ k. bytes_of k n) (suc-add a b)
    ∙ ap (λ l. n % 256 ∷ l) (two_pieces a b (n / 256))
    ∙ ap (λ d. n % 256 ∷ (bytes_of a (n / 256) ++ bytes_of b d))
    (div-div-eq-div-mul n 256 (256 ^ a) ∙ ap (λ k. n / k) (sym (pow-succ' 256 a)))

-- in three
pub three_pieces : (k a b c n : ℕ) → k ≡ a + (b + c)
    → bytes_of k n ≡ bytes_of a n ++ (bytes_of b (n / 256 ^ a) ++ bytes_of c (n / 256 ^ a / 256 ^ b))
three_pieces k a b c n h =
    ap (λ k. bytes_of k n) h ∙ two_pieces a (b + c) n ∙ ap (λ l. bytes_of a n ++ l) (two_pieces b c (n / 256 ^ a))

-- A number with another part, at scale S and of size B: what it is made of.
replaced : (m S B y : ℕ) → (m - (m / S % B) * S) + y * S ≡ (m / S / B * B + y) * S + m % S
replaced m S B y =
    let h : ℕ = m / S / B in
    let p : ℕ = m / S % B in
    let whole : m / S * S + m % S ≡ m = div-add-mod' m S in
    let high : (h * B + p) * S ≡ m / S * S = ap (λ k. k * S) (div-add-mod' (m / S) B) in
    let old : (h * B + p) * S ≡ h * B * S + p * S = add-mul (h * B) p S in
    let new : (h * B + y) * S ≡ h * B * S + y * S = add-mul (h * B) y S in
    omega (arith, whole, high, old, new)

pub record Replaced (m a b x : ℕ) : Type 0 where
  pub low : with_part m a b x % 256 ^ a ≡ m % 256 ^ a
  pub middle : with_part m a b x / 256 ^ a % 256 ^ b ≡ x % 256 ^ b
  pub high : with_part m a b x / 256 ^ a / 256 ^ b ≡ m / 256 ^ a / 256 ^ b

pub part_replaced : (m a b x : ℕ) → Replaced m a b x
part_replaced m a b x =
    let S : ℕ = 256 ^ a in
    let B : ℕ = 256 ^ b in
    let y : ℕ = x % B in
    let h : ℕ = m / S / B in
    let is : with_part m a b x ≡ (h * B + y) * S + m % S = replaced m S B y in
    let above : with_part m a b x / S ≡ h * B + y = ap (λ n. n / S) is ∙ div-mul-add (h * B + y) S (m % S) (rest_below m a) in
    record {
      low = ap (λ n. n % S) is ∙ mod-mul-add (h * B + y) S (m % S) (rest_below m a);
      middle = ap (λ n. n % B) above ∙ mod-mul-add h B y (rest_below x b);
      high = ap (λ n. n / B) above ∙ div-mul-add h B y (rest_below x b);
    }

-- its bytes
pub with_part-bytes : (k a b c m x : ℕ) → k ≡ a + (b + c)
    → bytes_of k (with_part m a b x) ≡ bytes_of a m ++ (bytes_of b x ++ bytes_of c (m / 256 ^ a / 256 ^ b))
with_part-bytes k a b c m x h =
    let r : Replaced m a b x = part_replaced m a b x in
    three_pieces k a b c (with_part m a b x) h
    ∙ ap₂ (λ u v. u ++ (v ++ bytes_of c (with_part m a b x / 256 ^ a / 256 ^ b)))
    (bytes_of-same a (with_part m a b x) m r.low) (bytes_of-same b (with_part m a b x / 256 ^ a) x r.middle)
    ∙ ap (λ n. bytes_of a m ++ (bytes_of b x ++ bytes_of c n)) r.high

-- it has no more
pub with_part-below : (k a b c m x : ℕ) → k ≡ a + (b + c) → m < 256 ^ k → with_part m a b x < 256 ^ k
with_part-below k a b c m x e l =
    let S : ℕ = 256 ^ a in
    let B : ℕ = 256 ^ b in
    let C : ℕ = 256 ^ c in
    let y : ℕ = x % B in
    let h : ℕ = m / S / B in
    let size : 256 ^ k ≡ S * (B * C) = ap (λ k. 256 ^ k) e ∙ pow-add 256 a (b + c) ∙ ap (λ n. S * n) (pow-add 256 b c) in
    let l1 : m / S < B * C = div_below m S (B * C) (scale_positive a) (turned S (B * C) (subst (λ n. m < n) size l)) in
    let l2 : h < C = div_below (m / S) B C (scale_positive b) (turned B C l1) in
    let l3 : h * B + y < B * C = mul-add-lt h B y C l2 (rest_below x b) in
    let l4 : (h * B + y) * S + m % S < S * (B * C) = mul-add-lt (h * B + y) S (m % S) (B * C) l3 (rest_below m a) in
    subst (λ n. n < 256 ^ k) (sym (replaced m S B y)) (subst (λ n. (h * B + y) * S + m % S < n) (sym size) l4)
  where
    turned : {n : ℕ} (i j : ℕ) → n < i * j → n < j * i
    turned {n} i j h = subst (λ p. n < p) (mul_comm i j) h

-- The low bytes of one number with those of another one above them.
pub first_with-below : (r m x : ℕ) → r ≤ 4 → first_with m r x < 256 ^ 4
first_with-below r m x h =
    let S : ℕ = 256 ^ r in
    let C : ℕ = 256 ^ (4 - r) in
    let e : 4 ≡ r + (4 - r) = omega arith in
    let size : 256 ^ 4 ≡ S * C = ap (λ k. 256 ^ k) e ∙ pow-add 256 r (4 - r) in
    let l : x % C * S + m % S < S * C = mul-add-lt (x % C) S (m % S) C (rest_below x (4 - r)) (rest_below m r) in
    omega (arith, size, l)

pub first_with-bytes : (r m x : ℕ) → r ≤ 4 → bytes_of 4 (first_with m r x) ≡ bytes_of r m ++ bytes_of (4 - r) x
first_with-bytes r m x h =
    let S : ℕ = 256 ^ r in
    let C : ℕ = 256 ^ (4 - r) in
    let e : 4 ≡ r + (4 - r) = omega arith in
    let turn : first_with m r x ≡ x % C * S + m % S = omega arith in
    let low : first_with m r x % S ≡ m % S = ap (λ n. n % S) turn ∙ mod-mul-add (x % C) S (m % S) (rest_below m r) in
    let high : first_with m r x / S ≡ x % C = ap (λ n. n / S) turn ∙ div-mul-add (x % C) S (m % S) (rest_below m r) in
    ap (λ k. bytes_of k (first_with m r x)) e
    ∙ two_pieces r (4 - r) (first_with m r x)
    ∙ ap₂ (λ u v. u ++ v) (bytes_of-same r (first_with m r x) m low) (ap (bytes_of (4 - r)) high ∙ bytes_of-rest (4 - r) x)
