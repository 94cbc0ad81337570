-- Numbers below 2^64 as two words, the low one and the high one.
use Rattle.std.proofs.Common.{◌≡◌, ℕ, ◌+◌, ◌*◌, ◌%◌, ◌<◌, ℤ, pos, ◌+ℤ◌, ◌-ℤ◌, Bool, arith, if◌then◌else◌}
use Rattle.mc_cmd.specs.World.{wrapped}
use Rattle.cc_line.proofs.Words.{score, sum_of, difference_of}

abbrev pub pair : ℕ → ℕ → ℕ
pair h l = h * 4294967296 + l

-- one more, one less
pub plus_one : (m : ℕ) → m < 4294967296 → wrapped (score m +ℤ pos 1) ≡ score ((m + 1) % 4294967296)
plus_one m h = sum_of m 1 h (omega arith)

pub minus_one : (m : ℕ) → m < 4294967296 → wrapped (score m -ℤ pos 1) ≡ score ((m + 4294967295) % 4294967296)
minus_one m h = difference_of m 1 h (omega arith)

abbrev pub add_one_if : Bool → ℤ → ℤ
add_one_if b h = if b then wrapped (h +ℤ pos 1) else h

abbrev pub take_one_if : Bool → ℤ → ℤ
take_one_if b h = if b then wrapped (h -ℤ pos 1) else h
