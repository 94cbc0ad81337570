-- Comparisons without sign of the number in `#a` with a constant, by the range of the ints that are below it.
use Rattle.std.specs.Prelude.{ℕ, ◌-◌, List, pos, negsuc, Bool, true, false, if◌then◌else◌, nat_le, codes}
use Rattle.std.specs.Int.{w32, cast_signed}
use Rattle.mc_cmd.specs.Command.{between}
use Rattle.cc_line.specs.Place.{scratch}
use Rattle.cc_line.specs.Step.{Check, Cond, Step, fails, holds, in_range}
use Rattle.cc_i32.specs.Light.{truth}

-- a check holds, or fails
abbrev pub is_so : Bool → Check → Cond
is_so true c = holds c
is_so false c = fails c

-- `#a` is from 0 to below n, n from 1 to 2^31; it is from n up, n above 2^31
abbrev pub low_range : ℕ → Check
low_range n = in_range (scratch (codes "#a")) (between (pos 0) (pos (n - 1)))

abbrev pub high_range : ℕ → Check
high_range n = in_range (scratch (codes "#a")) (between (cast_signed w32 n) (negsuc 0))

-- `#a` without sign is below n, or it isn't
abbrev pub below_cond : ℕ → Cond
below_cond n = if nat_le n 2147483648 then holds (low_range n) else fails (high_range n)

abbrev pub not_below_cond : ℕ → Cond
not_below_cond n = if nat_le n 2147483648 then fails (low_range n) else holds (high_range n)

abbrev pub below_steps : ℕ → List Step
below_steps n = truth (below_cond n) (scratch (codes "#a"))

abbrev pub not_below_steps : ℕ → List Step
not_below_steps n = truth (not_below_cond n) (scratch (codes "#a"))
