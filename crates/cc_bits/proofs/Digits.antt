-- And, or and xor of words by their halves and bytes.
use Rattle.std.proofs.Common.{◌≡◌, ℕ, ◌+◌, ◌-◌, ◌*◌, ◌/◌, ◌%◌, ◌<◌, ℤ, pos, ◌+ℤ◌, ◌-ℤ◌, ◌*ℤ◌, Some, bit_and, bit_or, bit_xor, arith, refl, sym, ap, ap₂, ◌∙◌, mod-lt, mod-eq_of_lt}
use Rattle.std.proofs.lemmas.Nat.{and_block, and_le_l, or_lt, xor_lt, pow_pos}
use Rattle.std.specs.Int.Bits.{or_add_and, xor_add_and}
use Rattle.std.specs.Int.{w32}
use Rattle.mc_cmd.specs.World.{wrapped, rest_by, floor_by}
use Rattle.mc_nbt.specs.Word.{is_int}
use Rattle.std.proofs.Common.{true}
use Rattle.std.proofs.lemmas.Bool.{lt-ltb}
use Rattle.wm_ast.specs.Integer.{iand, ior, ixor}
use Rattle.cc_line.proofs.TableLemmas.{IsPlace, index_in}
use Rattle.cc_line.proofs.Words.{score, by_sign, sum_of, difference_of, product_of, low_score, unwrapped, fits_score}
use Rattle.cc_line.proofs.Rests.{rest_pp, rest_np}
use Rattle.cc_bits.proofs.ShiftFacts.{fits_floor}

-- ---- the halves: `#c = #x; #c %= #k; #x /= #k`, k being 65536
pub low_half : (m : ℕ) → m < 4294967296 → rest_by (score m) (pos 65536) ≡ Some (pos (m % 65536))
low_half = by_sign (λ m a. rest_by a (pos 65536) ≡ Some (pos (m % 65536)))
    (λ m h. rest_pp m 65535) (λ k h. rest_np k 65535 ∙ ap (λ n. Some (pos n)) (omega arith))

-- each is an int, and a place of a list of 65536
pub record Placed (n : ℕ) (z : ℤ) : Type 0 where
  pub ranged : is_int z ≡ true
  pub within : IsPlace 65536 z
  pub index : index_in 65536 z ≡ n

pub placed_low : (n : ℕ) → n < 65536 → Placed n (pos n)
placed_low n l = record { ranged = lt-ltb n 2147483648 (omega arith); within = l; index = refl }

pub placed_high : (m : ℕ) → m < 4294967296 → Placed (m / 65536) (floor_by (score m) 65536)
placed_high = by_sign (λ m a. Placed (m / 65536) (floor_by a 65536))
    (λ m h. record { ranged = lt-ltb (m / 65536) 2147483648 (omega arith); within = omega arith; index = refl })
    (λ k h. record { ranged = lt-ltb (k / 65536) 2147483648 (omega arith); within = omega arith; index = omega arith })

pub high_half_is : (m : ℕ) → m < 4294967296 → wrapped (floor_by (score m) 65536) ≡ floor_by (score m) 65536
high_half_is m h = unwrapped (floor_by (score m) 65536) (fits_floor (score m) 65536 (fits_score m h))

-- ---- the result from its bytes
abbrev pub put_together : ℤ → ℤ → ℤ → ℤ → ℤ
put_together a b c d = wrapped (wrapped (wrapped (wrapped (a +ℤ b) *ℤ pos 65536) +ℤ c) +ℤ d)

more : (m n : ℕ) → n < 2147483648 → m + n < 4294967296 → wrapped (score m +ℤ pos n) ≡ score (m + n)
more m n h k =
    ap (λ z. wrapped (score m +ℤ z)) (sym (low_score n h))
    ∙ sum_of m n (omega arith) (omega arith) ∙ ap score (mod-eq_of_lt k)

pub put_together_is : (a b c d : ℕ) → a < 256 → b < 256 → c < 256 → d < 256
    → put_together (pos (a * 256)) (pos b) (pos (c * 256)) (pos d) ≡ score ((a * 256 + b) * 65536 + c * 256 + d)
put_together_is a b c d p q r s =
    let high : wrapped (pos (a * 256) +ℤ pos b) ≡ score (a * 256 + b) =
    ap (λ z. wrapped (z +ℤ pos b)) (sym (low_score (a * 256) (omega arith))) ∙ more (a * 256) b (omega arith) (omega arith) in
    let moved : wrapped (score (a * 256 + b) *ℤ pos 65536) ≡ score ((a * 256 + b) * 65536) =
    ap (λ z. wrapped (score (a * 256 + b) *ℤ z)) (sym (low_score 65536 (omega arith)))
    ∙ product_of (a * 256 + b) 65536 (omega arith) (omega arith) ∙ ap score (mod-eq_of_lt (omega arith)) in
    ap (λ z. wrapped (wrapped (wrapped (z *ℤ pos 65536) +ℤ pos (c * 256)) +ℤ pos d)) high
    ∙ ap (λ z. wrapped (wrapped (z +ℤ pos (c * 256)) +ℤ pos d)) moved
    ∙ ap (λ z. wrapped (z +ℤ pos d)) (more ((a * 256 + b) * 65536) (c * 256) (omega arith) (omega arith))
    ∙ more ((a * 256 + b) * 65536 + c * 256) d (omega arith) (omega arith)

-- ---- and
by_half : (m : ℕ) → m ≡ m / 65536 * 65536 + m % 65536
by_half m = omega arith

by_byte : (m : ℕ) → m ≡ m / 256 * 256 + m % 256
by_byte m = omega arith

and_halves : (m n : ℕ) → bit_and m n ≡ bit_and (m / 65536) (n / 65536) * 65536 + bit_and (m % 65536) (n % 65536)
and_halves m n = ap₂ bit_and (by_half m) (by_half n) ∙ and_block 16 (m / 65536) (n / 65536) (m % 65536) (n % 65536) (mod-lt m (pow_pos 16)) (mod-lt n (pow_pos 16))

and_bytes : (m n : ℕ) → bit_and m n ≡ bit_and (m / 256) (n / 256) * 256 + bit_and (m % 256) (n % 256)
and_bytes m n = ap₂ bit_and (by_byte m) (by_byte n) ∙ and_block 8 (m / 256) (n / 256) (m % 256) (n % 256) (mod-lt m (pow_pos 8)) (mod-lt n (pow_pos 8))

byte_small : (m n : ℕ) → m < 256 → bit_and m n < 256
byte_small m n h = omega (arith, and_le_l m n)

and_whole : (m n : ℕ) → (bit_and (m / 65536 / 256) (n / 65536 / 256) * 256 + bit_and (m / 65536 % 256) (n / 65536 % 256)) * 65536 + bit_and (m % 65536 / 256) (n % 65536 / 256) * 256 + bit_and (m % 65536 % 256) (n % 65536 % 256) ≡ bit_and m n
and_whole m n =
    let high = and_bytes (m / 65536) (n / 65536) in
    let low = and_bytes (m % 65536) (n % 65536) in
    let whole = and_halves m n in
    omega (arith, high, low, whole)

pub and_is : (m n : ℕ) → m < 4294967296 → n < 4294967296
    → put_together (pos (bit_and (m / 65536 / 256) (n / 65536 / 256) * 256)) (pos (bit_and (m / 65536 % 256) (n / 65536 % 256))) (pos (bit_and (m % 65536 / 256) (n % 65536 / 256) * 256)) (pos (bit_and (m % 65536 % 256) (n % 65536 % 256)))
    ≡ score (iand w32 m n)
and_is m n p q =
    put_together_is (bit_and (m / 65536 / 256) (n / 65536 / 256)) (bit_and (m / 65536 % 256) (n / 65536 % 256)) (bit_and (m % 65536 / 256) (n % 65536 / 256)) (bit_and (m % 65536 % 256) (n % 65536 % 256))
    (byte_small (m / 65536 / 256) (n / 65536 / 256) (omega arith)) (byte_small (m / 65536 % 256) (n / 65536 % 256) (mod-lt (m / 65536) (omega arith)))
    (byte_small (m % 65536 / 256) (n % 65536 / 256) (let l : m % 65536 < 65536 = mod-lt m (omega arith) in omega arith)) (byte_small (m % 65536 % 256) (n % 65536 % 256) (mod-lt (m % 65536) (omega arith)))
    ∙ ap score (and_whole m n)

-- ---- the others, by the sum
abbrev pub sum_less : ℤ → ℤ → ℤ
sum_less e d = wrapped (e -ℤ d)

and_small : (m n : ℕ) → m < 4294967296 → bit_and m n < 4294967296
and_small m n h = omega (arith, and_le_l m n)

pub sum_is : (m n : ℕ) → m < 4294967296 → n < 4294967296 → wrapped (score m +ℤ score n) ≡ score ((m + n) % 4294967296)
sum_is m n p q = sum_of m n p q

pub or_is : (m n : ℕ) → m < 4294967296 → n < 4294967296 → sum_less (wrapped (score m +ℤ score n)) (score (iand w32 m n)) ≡ score (ior w32 m n)
or_is m n p q =
    let both : bit_or m n + bit_and m n ≡ m + n = or_add_and m n in
    let small : bit_or m n < 4294967296 = or_lt 32 m n p q in
    let few : bit_and m n < 4294967296 = and_small m n p in
    ap (λ z. sum_less z (score (bit_and m n))) (sum_is m n p q)
    ∙ difference_of ((m + n) % 4294967296) (bit_and m n) (mod-lt (m + n) (omega arith)) few
    ∙ ap score (let e : ((m + n) % 4294967296 + (4294967296 - bit_and m n)) % 4294967296 ≡ bit_or m n = omega arith in e)

pub xor_is : (m n : ℕ) → m < 4294967296 → n < 4294967296 → sum_less (sum_less (wrapped (score m +ℤ score n)) (score (iand w32 m n))) (score (iand w32 m n)) ≡ score (ixor w32 m n)
xor_is m n p q =
    let both : bit_xor m n + bit_and m n * 2 ≡ m + n = xor_add_and m n in
    let either : bit_or m n + bit_and m n ≡ m + n = or_add_and m n in
    let small : bit_xor m n < 4294967296 = xor_lt 32 m n p q in
    let few : bit_and m n < 4294967296 = and_small m n p in
    let wide : bit_or m n < 4294967296 = or_lt 32 m n p q in
    ap (λ z. sum_less z (score (bit_and m n))) (or_is m n p q)
    ∙ difference_of (bit_or m n) (bit_and m n) wide few
    ∙ ap score (let e : (bit_or m n + (4294967296 - bit_and m n)) % 4294967296 ≡ bit_xor m n = omega arith in e)
