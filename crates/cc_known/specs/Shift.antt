-- Shifts and rotations of the number in `#a` by a constant from 0 to 31.
use Rattle.std.specs.Prelude.{ℕ, ◌-◌, List, [], ◌∷◌, ◌++◌, pos, negsuc, if◌then◌else◌, nat_eq, codes}
use Rattle.mc_cmd.specs.Form.{Text}
use Rattle.mc_cmd.specs.Command.{assign, add, multiply, divide, from, up_to}
use Rattle.cc_line.specs.Place.{scratch}
use Rattle.cc_line.specs.Step.{Step, set_spot}
use Rattle.cc_bits.specs.Line.{sets, makes, where_in}
use Rattle.cc_known.specs.Mask.{sets_power, rest_steps}

abbrev pub shl_steps : ℕ → List Step
shl_steps k = if nat_eq k 0 then [] else sets_power k ∷ makes (codes "#a") multiply (codes "#m") ∷ []

-- 2^31 is no int, so a quotient by it is one by 2^30 and one by 2
abbrev pub shr_s_steps : ℕ → List Step
shr_s_steps k =
    if nat_eq k 0 then []
    else if nat_eq k 31
    then
    sets_power 30
    ∷ makes (codes "#a") divide (codes "#m")
    ∷ sets (codes "#m") (pos 2)
    ∷ makes (codes "#a") divide (codes "#m")
    ∷ []
    else sets_power k ∷ makes (codes "#a") divide (codes "#m") ∷ []

-- of a score, by 1 to 31: the rest by 2^(32 - k) of the quotient rounded down, or the sign's bit alone
abbrev pub sign_bit_steps : Text → List Step
sign_bit_steps h =
    where_in (from (pos 0)) h (set_spot (scratch h) (pos 0))
    ∷ where_in (up_to (negsuc 0)) h (set_spot (scratch h) (pos 1))
    ∷ []

abbrev pub shr_u_on : Text → ℕ → List Step
shr_u_on h k =
    if nat_eq k 31 then sign_bit_steps h
    else sets_power k ∷ makes h divide (codes "#m") ∷ rest_steps (32 - k) h

abbrev pub shr_u_steps : ℕ → List Step
shr_u_steps k = if nat_eq k 0 then [] else shr_u_on (codes "#a") k

-- What comes in at the bottom is made in `#c`, which leaves the factor 2^k in `#m`, but for k = 1.
abbrev pub rotl_steps : ℕ → List Step
rotl_steps k =
    if nat_eq k 0 then []
    else makes (codes "#c") assign (codes "#a")
    ∷ (shr_u_on (codes "#c") (32 - k)
    ++ (makes (codes "#a") (if nat_eq k 1 then add else multiply) (if nat_eq k 1 then codes "#a" else codes "#m")
    ∷ makes (codes "#a") add (codes "#c")
    ∷ []))
