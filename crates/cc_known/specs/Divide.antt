-- Divisions of the number in `#a` by a constant: without sign by 2^k, and with sign by one from 1 to 2^31 - 1.
use Rattle.std.specs.Prelude.{ℕ, ◌-◌, List, [], ◌∷◌, pos, negsuc, if◌then◌else◌, nat_eq, codes}
use Rattle.mc_cmd.specs.Command.{assign, subtract, divide, remainder, from, up_to}
use Rattle.cc_line.specs.Place.{scratch}
use Rattle.cc_line.specs.Step.{Step, combine, holds, in_range, increase, when}
use Rattle.cc_bits.specs.Line.{sets, makes, where_in}
use Rattle.cc_known.specs.Mask.{rest_steps}

-- the rest by 2^k
abbrev pub rem_u_steps : ℕ → List Step
rem_u_steps k = if nat_eq k 0 then sets (codes "#a") (pos 0) ∷ [] else rest_steps k (codes "#a")

-- a quotient that is rounded down is rounded towards 0 where a number below 0 gets one less than the divisor more
abbrev pub div_s_steps : ℕ → List Step
div_s_steps n =
    sets (codes "#m") (pos n)
    ∷ where_in (up_to (negsuc 0)) (codes "#a") (increase (scratch (codes "#a")) (n - 1))
    ∷ makes (codes "#a") divide (codes "#m")
    ∷ []

-- a rest above 0 of a number below 0 is the divisor less
abbrev pub rem_s_steps : ℕ → List Step
rem_s_steps n =
    sets (codes "#m") (pos n)
    ∷ makes (codes "#c") assign (codes "#a")
    ∷ makes (codes "#a") remainder (codes "#m")
    ∷ when
    (holds (in_range (scratch (codes "#c")) (up_to (negsuc 0)))
    ∷ holds (in_range (scratch (codes "#a")) (from (pos 1))) ∷ [])
    (combine (scratch (codes "#a")) subtract (scratch (codes "#m")))
    ∷ []
