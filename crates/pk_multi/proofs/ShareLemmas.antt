-- A share is no more than the budget.
use Rattle.std.proofs.Common.{ℕ, ◌+◌, ◌/◌, ◌%◌, ◌<◌, ◌≤◌, arith}
use Rattle.std.proofs.lemmas.Nat.{div-add-mod'}
use Rattle.std.proofs.Math.Nat.{le-mul_of_pos_right}

pub share_fits : (b n : ℕ) → 0 < n → (b / n) + (b % n) ≤ b
share_fits b n h = let d = div-add-mod' b n in let m = le-mul_of_pos_right {m = n} (b / n) h in omega (arith, d, m)
