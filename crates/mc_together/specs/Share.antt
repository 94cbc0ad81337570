-- How a budget is shared by several programs.
use Rattle.std.specs.Prelude.{◌≤◌, ℕ, zero, suc, ◌+◌, ◌*◌, ◌/◌, ◌%◌, ◌^◌, ◌-◌, nat_eq, if◌then◌else◌}
use Rattle.mc_cmd.specs.declared.TheConstants.{BMIN}

-- what no equal shares take up goes to one program, and to another one in each tick
abbrev pub rest_of_share : ℕ → ℕ → ℕ → ℕ → ℕ
rest_of_share b n t i = if nat_eq i (t % n) then b % n else 0

-- the share of program i of n, of a budget, after t ticks
abbrev pub share_of : ℕ → ℕ → ℕ → ℕ → ℕ
share_of b n t i = (b / n) + rest_of_share b n t i

-- the budget of n programs is at least n times the least one of a program
abbrev pub IsSharedBudget : ℕ → ℕ → Type 0
IsSharedBudget n b = (BMIN * n ≤ b) × (b ≤ 2 ^ 31 - 1)

-- the sum of the shares of the first k of n programs
abbrev pub sum_shares : ℕ → ℕ → ℕ → ℕ → ℕ
sum_shares b n t zero = 0
sum_shares b n t (suc k) = sum_shares b n t k + share_of b n t k
