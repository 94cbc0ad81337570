-- Ranges of signed numbers that are read seven bits at a time.
use Rattle.std.proofs.Common.{◌≡◌, ℕ, ◌+◌, ◌-◌, ◌*◌, ◌^◌, ◌<◌, ◌≤◌, ap, ◌∙◌, arith, ℤ, pos, ◌+ℤ◌, w32, w64, to_z, of_z, lit≤}
use Rattle.std.specs.Prelude.{◌*ℤ◌, FitsSigned}
use Rattle.std.proofs.Math.Pow.{pow_mono}
use Rattle.std.proofs.lemmas.Nat.{pow-add}
use Rattle.std.proofs.lemmas.Int.{ints, to_z-of_z}
use Rattle.wm_frame.specs.Reading.{IsWithin}

seven : (bits : ℕ) → 7 < bits → 2 ^ (bits - 1) ≡ 128 * 2 ^ (bits - 7 - 1)
seven bits lt =
    let e : bits - 1 ≡ 7 + (bits - 7 - 1) = omega arith in
    ap (λ k. 2 ^ k) e ∙ pow-add 2 7 (bits - 7 - 1)

pub joined : (bits low : ℕ) (high : ℤ) → 7 < bits → low < 128 → IsWithin (bits - 7) high → IsWithin bits ((pos 128 *ℤ high) +ℤ pos low)
joined bits low high lt small w =
    let s = seven bits lt in
    record { least = omega (arith, ints, w.least); most = omega (arith, ints, w.most) }

pub times_fits : (bits : ℕ) (high : ℤ) → 7 < bits → bits ≤ 64 → IsWithin (bits - 7) high → FitsSigned w64 (pos 128 *ℤ high)
times_fits bits high lt le w =
    let s = seven bits lt in
    let j : bits - 1 ≤ 63 = omega arith in
    let m : 2 ^ (bits - 1) ≤ 2 ^ 63 = pow_mono j in
    omega (arith, ints, w.least, w.most)

pub within_fits : (bits : ℕ) (n : ℤ) → bits ≤ 64 → IsWithin bits n → FitsSigned w64 n
within_fits bits n le w =
    let j : bits - 1 ≤ 63 = omega arith in
    let m : 2 ^ (bits - 1) ≤ 2 ^ 63 = pow_mono j in
    omega (arith, ints, w.least, w.most)

pub fits_32 : (n : ℤ) → IsWithin 32 n → FitsSigned w32 n
fits_32 n w = omega (arith, ints, w.least, w.most)

-- a number of 32 bits stays itself as one
pub cast_is : (n : ℤ) → IsWithin 32 n → to_z w32 (of_z w32 (to_z w64 (of_z w64 n))) ≡ n
cast_is n w =
    let a : to_z w64 (of_z w64 n) ≡ n = to_z-of_z w64 n (within_fits 32 n (lit≤ tt) w) in
    ap (λ z. to_z w32 (of_z w32 z)) a ∙ to_z-of_z w32 n (fits_32 n w)
