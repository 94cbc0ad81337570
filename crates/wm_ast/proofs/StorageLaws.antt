-- An integer and its bytes.
use Rattle.std.proofs.Common.{◌≡◌, ℕ, zero, suc, ◌+◌, ◌*◌, ◌/◌, ◌%◌, ◌^◌, ◌<◌, List, [], ◌∷◌, length, All, refl, sym, ap, ap₂, ◌∙◌, arith}
use Rattle.std.proofs.Math.Arith.{mod-mul}
use Rattle.std.proofs.Math.Nat.{mod-one, pow-suc}
use Rattle.std.proofs.lemmas.List.Elements.{All-nil, All-cons, All-tail}
use native.Mathlib.Nat.{mod-lt}
use Rattle.wm_ast.specs.Storage.{bytes_of, number_of}

pub bytes_of-length : (k n : ℕ) → length (bytes_of k n) ≡ k
bytes_of-length zero n = refl
bytes_of-length (suc k) n = omega (arith, bytes_of-length k (n / 256))

-- each of them is one
pub bytes_are_below : (k n : ℕ) → All (λ b. b < 256) (bytes_of k n)
bytes_are_below zero n = All-nil (λ b. b < 256)
bytes_are_below (suc k) n = All-cons (λ b. b < 256) (n % 256) (bytes_of k (n / 256)) (mod-lt n (omega arith)) (bytes_are_below k (n / 256))

positive : (k : ℕ) → 0 < 256 ^ k
positive zero = omega arith
positive (suc k) = omega (arith, positive k, pow-suc 256 k)

-- the low bytes are the number modulo 256^k
pub number_of-bytes_of : (k n : ℕ) → number_of (bytes_of k n) ≡ n % 256 ^ k
number_of-bytes_of zero n = sym (mod-one n)
number_of-bytes_of (suc k) n =
    let above : number_of (bytes_of k (n / 256)) ≡ n / 256 % 256 ^ k = number_of-bytes_of k (n / 256) in
    let split : n % (256 ^ k * 256) ≡ (n / 256 % 256 ^ k) * 256 + n % 256 = mod-mul n {m = 256 ^ k} {c = 256} (positive k) (omega arith) in
    let e : n % 256 + 256 * number_of (bytes_of k (n / 256)) ≡ (n / 256 % 256 ^ k) * 256 + n % 256 = omega (arith, above) in
    e ∙ sym split ∙ ap (λ m. n % m) (sym (pow-suc 256 k))

next_byte : (b n : ℕ) → b < 256 → ((b + 256 * n) % 256 ≡ b) × ((b + 256 * n) / 256 ≡ n)
next_byte b n h = (omega arith, omega arith)

-- bytes by their number
pub bytes_of-number_of : (bs : List ℕ) → All (λ b. b < 256) bs → bytes_of (length bs) (number_of bs) ≡ bs
bytes_of-number_of [] small = refl
bytes_of-number_of (b ∷ bs) small =
    let e = next_byte b (number_of bs) (small 0 b (omega arith)) in
    ap₂ (λ c n. c ∷ bytes_of (length bs) n) e.0 e.1 ∙ ap (λ l. b ∷ l) (bytes_of-number_of bs (All-tail (λ c. c < 256) b bs small))
