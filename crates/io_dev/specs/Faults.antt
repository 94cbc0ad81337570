-- Counts of faults.
use Rattle.std.specs.Prelude.{◌≤◌, ◌+◌, ◌-◌, ◌^◌, ℕ, min}

-- a count that is one higher, or stands at the end of its type
abbrev pub rise : ℕ → ℕ
rise count = min (count + 1) (2 ^ 64 - 1)

-- a count rose, or stands at the end of its type
pub record Rose (before now : ℕ) : Type 0 where
  pub later : before ≤ now
  pub rose : rise before ≤ now
