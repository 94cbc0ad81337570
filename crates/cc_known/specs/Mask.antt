-- And, or and xor of the number in `#a` with a constant, by its rests by powers of two: a run of ones from the place l
-- up to below the place h has of a number its rest by 2^h less its rest by 2^l.
use Rattle.std.specs.Prelude.{ℕ, zero, suc, ◌-◌, ◌^◌, List, [], ◌∷◌, ◌++◌, pos, negsuc, Bool, true, false}
use Rattle.std.specs.Prelude.{if◌then◌else◌, nat_eq, nat_lt, codes}
use Rattle.std.specs.Int.{w32, bit_at, cast_signed, leading_zeros}
use Rattle.mc_cmd.specs.Form.{Text}
use Rattle.mc_cmd.specs.Command.{assign, add, subtract, multiply, remainder, up_to}
use Rattle.cc_line.specs.Place.{scratch}
use Rattle.cc_line.specs.Step.{Step, run_act, increase, decrease}
use Rattle.cc_i32.specs.Light.{least}
use Rattle.cc_bits.specs.Line.{sets, makes, makes_in}

-- `#m` is 2^p, p below 32, as an int
abbrev pub sets_power : ℕ → Step
sets_power p = sets (codes "#m") (cast_signed w32 (2 ^ p))

-- a score gets its rest by 2^p, p from 1 to 31; that by 2^31 is 2^31 more where the sign's bit is set
abbrev pub rest_line : Bool → Text → Step
rest_line true h = makes h remainder (codes "#m")
rest_line false h = makes_in (up_to (negsuc 0)) h h subtract (codes "#m")

abbrev pub rest_steps : ℕ → Text → List Step
rest_steps p h = sets_power p ∷ rest_line (nat_lt p 31) h ∷ []

-- `#a` is `#c` less, or more, once or twice
abbrev pub change_line : Bool → Step
change_line true = makes (codes "#a") subtract (codes "#c")
change_line false = makes (codes "#a") add (codes "#c")

abbrev pub change_steps : Bool → Bool → List Step
change_steps false less = change_line less ∷ []
change_steps true less = change_line less ∷ change_line less ∷ []

-- whether a bit is 1
abbrev pub is_one : ℕ → ℕ → Bool
is_one n p = nat_eq (bit_at n p) 1

-- `#a` by the rests of the number in `#c` by 2^p, for the places p from one down where the bits of a number change: it
-- is the rest less where the bits above are ones, and else the rest more
unfoldable pub sum_steps : Bool → ℕ → Bool → ℕ → List Step
sum_steps twice zero ones n = []
sum_steps twice (suc p) true n =
    if is_one n p then sum_steps twice p true n
    else rest_steps (suc p) (codes "#c") ++ (change_steps twice true ++ sum_steps twice p false n)
sum_steps twice (suc p) false n =
    if is_one n p
    then rest_steps (suc p) (codes "#c") ++ (change_steps twice false ++ sum_steps twice p true n)
    else sum_steps twice p false n

-- behind a copy of `#a` in `#c`, if there are any
abbrev pub after_copy : List Step → List Step
after_copy [] = []
after_copy (x ∷ xs) = makes (codes "#c") assign (codes "#a") ∷ x ∷ xs

-- how many bits a number has up to its highest one
abbrev pub bit_count : ℕ → ℕ
bit_count n = 32 - leading_zeros w32 n

abbrev pub and_steps : ℕ → List Step
and_steps n =
    if nat_eq n 0 then sets (codes "#a") (pos 0) ∷ []
    else if nat_lt n 2147483648
    then rest_steps (bit_count n) (codes "#a") ++ after_copy (sum_steps false (bit_count n) true n)
    else after_copy (sum_steps false 31 true n)

-- `#a` is a number without sign more
abbrev pub more_steps : ℕ → List Step
more_steps n =
    if nat_eq n 0 then []
    else if nat_lt n 2147483648 then run_act (increase (scratch (codes "#a")) n) ∷ []
    else if nat_eq n 2147483648 then sets (codes "#m") least ∷ makes (codes "#a") add (codes "#m") ∷ []
    else run_act (decrease (scratch (codes "#a")) (4294967296 - n)) ∷ []

-- the bits that the constant hasn't, and the constant
abbrev pub or_steps : ℕ → List Step
or_steps n = and_steps (4294967295 - n) ++ more_steps n

-- the constant more, and twice less what both have, of which the bits below the highest matter; or all bits turned
abbrev pub turn_steps : List Step
turn_steps =
    sets (codes "#m") (negsuc 0)
    ∷ run_act (increase (scratch (codes "#a")) 1)
    ∷ makes (codes "#a") multiply (codes "#m")
    ∷ []

abbrev pub xor_steps : ℕ → List Step
xor_steps n =
    if nat_eq n 4294967295 then turn_steps
    else after_copy (sum_steps true 31 true (4294967295 - n)) ++ more_steps n
