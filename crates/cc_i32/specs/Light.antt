-- The lines of the light operations on two spots, or on one: the first operand becomes the result.
use Rattle.std.specs.Prelude.{List, [], ◌∷◌, ℤ, pos, negsuc, codes}
use Rattle.mc_cmd.specs.Command.{assign, add, subtract, multiply, Cmp, equal, exactly}
use Rattle.cc_line.specs.Place.{Spot, scratch}
use Rattle.cc_line.specs.Step.{set_spot, increase, combine, in_range, compare, Cond, holds, fails, Step, run_act, when}

abbrev pub sum : Spot → Spot → List Step
sum x y = run_act (combine x add y) ∷ []

abbrev pub difference : Spot → Spot → List Step
difference x y = run_act (combine x subtract y) ∷ []

abbrev pub product : Spot → Spot → List Step
product x y = run_act (combine x multiply y) ∷ []

-- whether a number is 0: any other becomes -1, and then each becomes one more
abbrev pub is_zero : Spot → List Step
is_zero x = when (fails (in_range x (exactly (pos 0))) ∷ []) (set_spot x (negsuc 0)) ∷ (run_act (increase x 1) ∷ [])

-- whether a condition holds
abbrev pub truth : Cond → Spot → List Step
truth c x =
    run_act (set_spot (scratch (codes "#c")) (pos 0))
    ∷ (when (c ∷ []) (set_spot (scratch (codes "#c")) (pos 1))
    ∷ (run_act (combine x assign (scratch (codes "#c")))
    ∷ []))

-- whether two numbers compare so, with their signs
abbrev pub compares : Cmp → Spot → Spot → List Step
compares c x y = truth (holds (compare x c y)) x

-- whether two numbers differ
abbrev pub differ : Spot → Spot → List Step
differ x y = truth (fails (compare x equal y)) x

abbrev pub least : ℤ
least = negsuc 2147483647

-- whether they compare so without sign: with the least number added, they do with their signs
abbrev pub compares_unsigned : Cmp → Spot → Spot → List Step
compares_unsigned c x y =
    run_act (set_spot (scratch (codes "#d")) least)
    ∷ (run_act (combine x add (scratch (codes "#d")))
    ∷ (run_act (combine (scratch (codes "#d")) add y)
    ∷ truth (holds (compare x c (scratch (codes "#d")))) x))
