-- Parts of words by the operations of scores.
use Rattle.std.proofs.Common.{◌≡◌, ◌<◌, ◌≤◌, ℕ, zero, suc, ◌+◌, ◌*◌, ◌-◌, ◌/◌, ◌%◌, ◌^◌, Some}
use Rattle.std.proofs.Common.{Bool, true, false, refl, sym, ap, ◌∙◌, subst, arith}
use Rattle.std.specs.Prelude.{ℤ, pos, negsuc, ◌+ℤ◌, ◌-ℤ◌, ◌*ℤ◌, ◌&&◌, nat_lt, nat_le, if◌then◌else◌}
use Rattle.std.specs.Int.{w32}
use Rattle.std.specs.Int.RustNames.{FitsSigned}
use Rattle.std.proofs.Math.Nat.{div-le_self}
use Rattle.std.proofs.lemmas.Nat.{div-add-mod'}
use Rattle.std.proofs.lemmas.Int.{ints, int_wrap_fits, wrapping_add-bits, wrapping_mul-bits}
use Rattle.std.proofs.lemmas.Bool.{lt-ltb, le-ltb, ltb-true, ltb-false, le-leb, lt-leb}
use Rattle.mc_cmd.specs.Command.{add, multiply, divide, remainder}
use Rattle.mc_cmd.specs.World.{wrapped, operate}
use Rattle.cc_page.specs.Pages.{signed_word, glued, byte_address}
use Rattle.cc_page.specs.Law.{PartsByScores, PairsByScores, base_of, AddressesSplit}

-- ---- numbers that don't wrap

fits_small : (n : ℕ) → n < 2147483648 → FitsSigned w32 (pos n)
fits_small n h = record { sfits = omega arith }

small : (n : ℕ) → n < 2147483648 → wrapped (pos n) ≡ pos n
small n h = int_wrap_fits w32 (pos n) (fits_small n h)

fits_below : (n : ℕ) → n < 2147483648 → FitsSigned w32 (negsuc n)
fits_below n h = record { sfits = omega arith }

small_below : (n : ℕ) → n < 2147483648 → wrapped (negsuc n) ≡ negsuc n
small_below n h = int_wrap_fits w32 (negsuc n) (fits_below n h)

-- a word as a score
pub score_low : (m : ℕ) → m < 2147483648 → signed_word m ≡ pos m
score_low m h = ap (λ b. if b then pos m else negsuc (4294967296 - suc m)) (lt-ltb m 2147483648 h)

pub score_high : (m : ℕ) → 2147483648 ≤ m → signed_word m ≡ negsuc (4294967296 - suc m)
score_high m h = ap (λ b. if b then pos m else negsuc (4294967296 - suc m)) (le-ltb m 2147483648 h)

-- ---- quotients and rests

pub rest_pos : (a d : ℕ) → pos a -ℤ (pos (suc d) *ℤ pos (a / suc d)) ≡ pos (a % suc d)
rest_pos a d = let e = div-add-mod' a (suc d) in omega (arith, ints)

pub rest_below : (a d : ℕ) → negsuc a -ℤ (pos (suc d) *ℤ negsuc (a / suc d)) ≡ pos (d - a % suc d)
rest_below a d =
    let e = div-add-mod' a (suc d) in
    let l : a % suc d < suc d = omega arith in
    omega (arith, ints)

quotient_pos : (a d : ℕ) → a < 2147483648 → operate divide (pos a) (pos (suc d)) ≡ Some (pos (a / suc d))
quotient_pos a d h = let l = div-le_self a (suc d) in ap Some (small (a / suc d) (omega arith))

quotient_below : (a d : ℕ) → a < 2147483648 → operate divide (negsuc a) (pos (suc d)) ≡ Some (negsuc (a / suc d))
quotient_below a d h = let l = div-le_self a (suc d) in ap Some (small_below (a / suc d) (omega arith))

remainder_pos : (a d : ℕ) → operate remainder (pos a) (pos (suc d)) ≡ Some (pos (a % suc d))
remainder_pos a d = ap Some (rest_pos a d)

remainder_below : (a d : ℕ) → operate remainder (negsuc a) (pos (suc d)) ≡ Some (pos (d - a % suc d))
remainder_below a d = ap Some (rest_below a d)

-- ---- parts of words

-- the quotient of a word by a number, and the rest of that by another
abbrev Splits : ℕ → ℕ → ℕ → Type 0
Splits m d e = (q : ℤ) × (operate divide (signed_word m) (pos d) ≡ Some q)
    × (operate remainder q (pos e) ≡ Some (pos ((m / d) % e)))

splits_low : (m d e : ℕ) → m < 2147483648 → Splits m (suc d) (suc e)
splits_low m d e h = (
  pos (m / suc d),
  ap (λ z. operate divide z (pos (suc d))) (score_low m h) ∙ quotient_pos m d h,
  remainder_pos (m / suc d) e,
)

splits_high : (m d e : ℕ) → 2147483648 ≤ m → m < 4294967296
    → e - ((4294967296 - suc m) / suc d) % suc e ≡ (m / suc d) % suc e → Splits m (suc d) (suc e)
splits_high m d e h l n = (
  negsuc ((4294967296 - suc m) / suc d),
  ap (λ z. operate divide z (pos (suc d))) (score_high m h) ∙ quotient_below (4294967296 - suc m) d (omega arith),
  remainder_below ((4294967296 - suc m) / suc d) e ∙ ap (λ n. Some (pos n)) n,
)

splits : (m d e : ℕ) → m < 4294967296
    → (2147483648 ≤ m → e - ((4294967296 - suc m) / suc d) % suc e ≡ (m / suc d) % suc e) → Splits m (suc d) (suc e)
splits m d e l n = go (nat_lt m 2147483648) refl
  where
    go : (b : Bool) → nat_lt m 2147483648 ≡ b → Splits m (suc d) (suc e)
    go true k = splits_low m d e (ltb-true m 2147483648 k)
    go false k = let h = ltb-false m 2147483648 k in splits_high m d e h l (n h)

-- one of the parts that end within a word, other than the whole
abbrev one_part : (P : ℕ → ℕ → Type 0) → P 0 1 → P 0 2 → P 0 3 → P 1 1 → P 1 2 → P 1 3 → P 2 1 → P 2 2 → P 3 1
    → (r width : ℕ) → r < 4 → 0 < width → width < 4 → r + width ≤ 4 → P r width
one_part P a b c d e f g h i r zero x y z s = absurd (omega arith)
one_part P a b c d e f g h i r (suc (suc (suc (suc w)))) x y z s = absurd (omega arith)
one_part P a b c d e f g h i zero (suc zero) x y z s = a
one_part P a b c d e f g h i zero (suc (suc zero)) x y z s = b
one_part P a b c d e f g h i zero (suc (suc (suc zero))) x y z s = c
one_part P a b c d e f g h i (suc zero) (suc zero) x y z s = d
one_part P a b c d e f g h i (suc zero) (suc (suc zero)) x y z s = e
one_part P a b c d e f g h i (suc zero) (suc (suc (suc zero))) x y z s = f
one_part P a b c d e f g h i (suc (suc zero)) (suc zero) x y z s = g
one_part P a b c d e f g h i (suc (suc zero)) (suc (suc zero)) x y z s = h
one_part P a b c d e f g h i (suc (suc zero)) (suc (suc (suc zero))) x y z s = absurd (omega arith)
one_part P a b c d e f g h i (suc (suc (suc zero))) (suc zero) x y z s = i
one_part P a b c d e f g h i (suc (suc (suc zero))) (suc (suc zero)) x y z s = absurd (omega arith)
one_part P a b c d e f g h i (suc (suc (suc zero))) (suc (suc (suc zero))) x y z s = absurd (omega arith)
one_part P a b c d e f g h i (suc (suc (suc (suc r)))) (suc w) x y z s = absurd (omega arith)

pub parts_by_scores : PartsByScores
parts_by_scores m r width l x y z s =
    one_part (λ r width. Splits m (256 ^ r) (256 ^ width))
    (splits m 0 255 l (λ h. omega arith)) (splits m 0 65535 l (λ h. omega arith))
    (splits m 0 16777215 l (λ h. omega arith)) (splits m 255 255 l (λ h. omega arith))
    (splits m 255 65535 l (λ h. omega arith)) (splits m 255 16777215 l (λ h. omega arith))
    (splits m 65535 255 l (λ h. omega arith)) (splits m 65535 65535 l (λ h. omega arith))
    (splits m 16777215 255 l (λ h. omega arith)) r width x y z s

-- ---- two words that follow one another

abbrev Glues : ℕ → ℕ → ℕ → ℕ → ℕ → Type 0
Glues m n d e g = (q low high : ℤ) × (operate divide (signed_word m) (pos d) ≡ Some q)
    × (operate remainder q (pos e) ≡ Some low)
    × (operate multiply (signed_word n) (pos e) ≡ Some high)
    × (operate add high low ≡ Some (signed_word g))

-- a product and a sum that wrap, as scores
product : (n e : ℕ) → n < 4294967296 → e < 2147483648
    → wrapped (signed_word n *ℤ pos e) ≡ signed_word ((n * e) % 4294967296)
product n e l h =
    ap (λ z. wrapped (signed_word n *ℤ z)) (sym (score_low e h)) ∙ sym (wrapping_mul-bits w32 n e l (omega arith))

sum : (j a : ℕ) → j < 4294967296 → a < 2147483648
    → wrapped (signed_word j +ℤ pos a) ≡ signed_word ((j + a) % 4294967296)
sum j a l h =
    ap (λ z. wrapped (signed_word j +ℤ z)) (sym (score_low a h)) ∙ sym (wrapping_add-bits w32 j a l (omega arith))

glues : (m n d e g : ℕ) → n < 4294967296 → suc e < 2147483648 → Splits m (suc d) (suc e)
    → ((n * suc e) % 4294967296 + (m / suc d) % suc e) % 4294967296 ≡ g → Glues m n (suc d) (suc e) g
glues m n d e g l h t f =
    let j : ℕ = (n * suc e) % 4294967296 in
    let a : ℕ = (m / suc d) % suc e in
    let b : a < suc e = omega arith in
    let k : j < 4294967296 = omega arith in (
      t.0,
      pos a,
      wrapped (signed_word n *ℤ pos (suc e)),
      t.1,
      t.2,
      refl,
      ap (λ z. Some (wrapped (z +ℤ pos a))) (product n (suc e) l h)
          ∙ ap Some (sum j a k (omega arith)) ∙ ap (λ k. Some (signed_word k)) f,
    )

-- r is 1, 2 or 3
pub by_three : (P : ℕ → Type 0) → P 1 → P 2 → P 3 → (r : ℕ) → 0 < r → r < 4 → P r
by_three P b c d zero l h = absurd (omega arith)
by_three P b c d (suc zero) l h = b
by_three P b c d (suc (suc zero)) l h = c
by_three P b c d (suc (suc (suc zero))) l h = d
by_three P b c d (suc (suc (suc (suc r)))) l h = absurd (omega arith)

pub pairs_by_scores : PairsByScores
pairs_by_scores m n r l k x y =
    by_three (λ r. Glues m n (256 ^ r) (256 ^ (4 - r)) (glued m n r 4))
    (glues m n 255 16777215 (glued m n 1 4) k (omega arith) (splits m 255 16777215 l (λ h. omega arith)) (omega arith))
    (glues m n 65535 65535 (glued m n 2 4) k (omega arith) (splits m 65535 65535 l (λ h. omega arith)) (omega arith))
    (glues m n 16777215 255 (glued m n 3 4) k (omega arith) (splits m 16777215 255 l (λ h. omega arith)) (omega arith))
    r x y

-- ---- addresses

base_low : (u : ℕ) → u < 16777216 → base_of (signed_word u) ≡ pos u
base_low u h =
    ap base_of (score_low u (omega arith))
    ∙ ap (λ b. if b && nat_le u 16777215 then pos u else pos 16777216) (le-leb 0 u (omega arith))
    ∙ ap (λ b. if b then pos u else pos 16777216) (le-leb u 16777215 (omega arith))

base_high : (u : ℕ) → 16777216 ≤ u → u < 4294967296 → base_of (signed_word u) ≡ pos 16777216
base_high u h l = go (nat_lt u 2147483648) refl
  where
    go : (b : Bool) → nat_lt u 2147483648 ≡ b → base_of (signed_word u) ≡ pos 16777216
    go true e =
        ap base_of (score_low u (ltb-true u 2147483648 e))
        ∙ ap (λ b. if b && nat_le u 16777215 then pos u else pos 16777216) (le-leb 0 u (omega arith))
        ∙ ap (λ b. if b then pos u else pos 16777216) (lt-leb u 16777215 (omega arith))
    go false e = ap base_of (score_high u (ltb-false u 2147483648 e))

-- an address below 512 pages, split
abbrev IsAddress : ℕ → ℕ → ℤ → Type 0
IsAddress u offset z = (p i r : ℕ) × (operate add z (pos offset) ≡ Some (pos (byte_address p i r)))
    × (operate divide (pos (byte_address p i r)) (pos 4) ≡ Some (pos (16384 * p + i)))
    × (operate remainder (pos (byte_address p i r)) (pos 4) ≡ Some (pos r))
    × (operate divide (pos (16384 * p + i)) (pos 16384) ≡ Some (pos p))
    × (operate remainder (pos (16384 * p + i)) (pos 16384) ≡ Some (pos i))
    × (p < 512) × (i < 16384) × (r < 4)
    × (u < 16777216 → byte_address p i r ≡ u + offset) × (16777216 ≤ u → 256 ≤ p)

address_splits : (u offset b : ℕ) → offset < 16777216 → b ≤ 16777216 → (u < 16777216 → b ≡ u)
    → (16777216 ≤ u → b ≡ 16777216) → IsAddress u offset (pos b)
address_splits u offset b l h low high =
    let a : ℕ = b + offset in
    let p : ℕ = a / 4 / 16384 in
    let i : ℕ = (a / 4) % 16384 in
    let r : ℕ = a % 4 in
    let e : byte_address p i r ≡ a = omega arith in
    let f : 16384 * p + i ≡ a / 4 = omega arith in (
      p,
      i,
      r,
      ap Some (small a (omega arith)) ∙ ap (λ n. Some (pos n)) (sym e),
      ap (λ n. operate divide (pos n) (pos 4)) e ∙ quotient_pos a 3 (omega arith) ∙ ap (λ n. Some (pos n)) (sym f),
      ap (λ n. operate remainder (pos n) (pos 4)) e ∙ remainder_pos a 3,
      ap (λ n. operate divide (pos n) (pos 16384)) f ∙ quotient_pos (a / 4) 16383 (omega arith),
      ap (λ n. operate remainder (pos n) (pos 16384)) f ∙ remainder_pos (a / 4) 16383,
      omega arith,
      omega arith,
      omega arith,
      λ k. let q = low k in omega arith,
      λ k. let q = high k in omega arith,
    )

pub addresses_split : AddressesSplit
addresses_split u offset l h = go (nat_lt u 16777216) refl
  where
    go : (b : Bool) → nat_lt u 16777216 ≡ b → IsAddress u offset (base_of (signed_word u))
    go true e =
        let k = ltb-true u 16777216 e in
        subst (IsAddress u offset) (sym (base_low u k))
        (address_splits u offset u h (omega arith) (λ x. refl) (λ x. absurd (omega arith)))
    go false e =
        let k = ltb-false u 16777216 e in
        subst (IsAddress u offset) (sym (base_high u k l))
        (address_splits u offset 16777216 h (omega arith) (λ x. absurd (omega arith)) (λ x. refl))
