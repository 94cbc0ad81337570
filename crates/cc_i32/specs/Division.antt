-- The lines of the four divisions: of the scratch score `#a` by `#b`, with traps.
use Rattle.std.specs.Prelude.{ℕ, List, [], ◌∷◌, ◌++◌, pos, negsuc, codes}
use Rattle.mc_cmd.specs.Form.{Text}
use Rattle.mc_cmd.specs.Command.{assign, add, subtract, multiply, divide, remainder, greater_equal, exactly, from}
use Rattle.mc_cmd.specs.Command.{up_to}
use Rattle.wm_ast.specs.declared.answer.TrapKind.TheVariants.{DivideByZero, Overflow}
use Rattle.cc_line.specs.Place.{Spot, scratch}
use Rattle.cc_line.specs.Step.{set_spot, increase, combine, load_place, keep_place, in_range, compare, Cond, holds}
use Rattle.cc_line.specs.Step.{Step, run_act, when}
use Rattle.cc_line.specs.Item.{Items, no_more, first, step_item, call_when, join, steps_items}
use Rattle.cc_line.specs.Routine.{trap_when}
use Rattle.cc_i32.specs.Light.{least}

abbrev pub dividend : Spot
dividend = scratch (codes "#a")

abbrev pub divisor : Spot
divisor = scratch (codes "#b")

-- a spot is below 0; it isn't; it is above 0
abbrev pub negative : Spot → Cond
negative x = holds (in_range x (up_to (negsuc 0)))

abbrev pub natural : Spot → Cond
natural x = holds (in_range x (from (pos 0)))

abbrev pub positive : Spot → Cond
positive x = holds (in_range x (from (pos 1)))

-- operands from their places to `#a` and `#b`, then items, then a scratch score to the result's place
abbrev pub on_scratch : ℕ → ℕ → ℕ → Text → Items → Items
on_scratch a b r h xs =
    first (step_item (run_act (load_place (codes "#a") a)))
    (first (step_item (run_act (load_place (codes "#b") b)))
    (join xs (first (step_item (run_act (keep_place r h))) no_more)))

-- ---- traps

abbrev pub by_zero : List Cond
by_zero = holds (in_range divisor (exactly (pos 0))) ∷ []

-- the least number by -1
abbrev pub too_great : List Cond
too_great = holds (in_range dividend (exactly least)) ∷ (holds (in_range divisor (exactly (negsuc 0))) ∷ [])

-- ---- with sign: a quotient rounds down here, and a rest has the divisor's sign

-- the quotient rounded towards zero, to `#c`: one more where the signs differ and there is a rest
abbrev pub signed_quotient : List Step
signed_quotient =
    run_act (combine (scratch (codes "#c")) assign dividend)
    ∷ (run_act (combine (scratch (codes "#c")) divide divisor)
    ∷ (run_act (combine (scratch (codes "#d")) assign dividend)
    ∷ (run_act (combine (scratch (codes "#d")) remainder divisor)
    ∷ (when (negative dividend ∷ (positive (scratch (codes "#d")) ∷ [])) (increase (scratch (codes "#c")) 1)
    ∷ (when (positive dividend ∷ (negative (scratch (codes "#d")) ∷ [])) (increase (scratch (codes "#c")) 1)
    ∷ [])))))

-- the rest with the dividend's sign, to `#c`: where it has the other one, it is less by the divisor
abbrev pub signed_rest : List Step
signed_rest =
    run_act (combine (scratch (codes "#c")) assign dividend)
    ∷ (run_act (combine (scratch (codes "#c")) remainder divisor)
    ∷ (when (negative dividend ∷ (positive (scratch (codes "#c")) ∷ []))
    (combine (scratch (codes "#c")) subtract divisor)
    ∷ (when (natural dividend ∷ (negative (scratch (codes "#c")) ∷ []))
    (combine (scratch (codes "#c")) subtract divisor)
    ∷ [])))

-- the two divisions of `#a` by `#b`, with their traps
abbrev pub quotient_s : Items
quotient_s = trap_when by_zero DivideByZero (trap_when too_great Overflow (steps_items signed_quotient))

abbrev pub rest_s : Items
rest_s = trap_when by_zero DivideByZero (steps_items signed_rest)

abbrev pub div_s : ℕ → ℕ → ℕ → Items
div_s a b r = on_scratch a b r (codes "#c") quotient_s

abbrev pub rem_s : ℕ → ℕ → ℕ → Items
rem_s a b r = on_scratch a b r (codes "#c") rest_s

-- ---- without sign, by the signs of the two numbers with sign

-- both are from 2^31 on, and the dividend is at least the divisor, so that it holds it once
abbrev pub holds_once : List Cond
holds_once = negative dividend ∷ (holds (compare dividend greater_equal divisor) ∷ [])

-- both are below 2^31
abbrev pub both_low : List Cond
both_low = natural divisor ∷ (natural dividend ∷ [])

-- the dividend is from 2^31 on, and the divisor below
abbrev pub high_by_low : List Cond
high_by_low = natural divisor ∷ (negative dividend ∷ [])

-- for such two: twice the quotient of half the dividend, to `#c`
abbrev pub twice_half : List Step
twice_half =
    run_act (combine (scratch (codes "#c")) assign dividend)
    ∷ (run_act (set_spot (scratch (codes "#d")) (pos 2))
    ∷ (run_act (combine (scratch (codes "#c")) divide (scratch (codes "#d")))
    ∷ (run_act (set_spot (scratch (codes "#d")) least)
    ∷ (run_act (combine (scratch (codes "#c")) subtract (scratch (codes "#d")))
    ∷ (run_act (combine (scratch (codes "#c")) divide divisor)
    ∷ (run_act (combine (scratch (codes "#c")) add (scratch (codes "#c")))
    ∷ []))))))

-- the quotient, to `#d`: that, or one more where what it leaves, which is below twice the divisor, holds the divisor
abbrev pub high_quotient : List Step
high_quotient =
    twice_half
    ++ (run_act (combine (scratch (codes "#d")) assign (scratch (codes "#c")))
    ∷ (run_act (combine (scratch (codes "#d")) multiply divisor)
    ∷ (run_act (combine dividend subtract (scratch (codes "#d")))
    ∷ (when (negative dividend ∷ []) (increase (scratch (codes "#c")) 1)
    ∷ (when (holds (compare dividend greater_equal divisor) ∷ []) (increase (scratch (codes "#c")) 1)
    ∷ (run_act (combine (scratch (codes "#d")) assign (scratch (codes "#c")))
    ∷ []))))))

-- the rest, to `#d`: what it leaves, or that less the divisor
abbrev pub high_rest : List Step
high_rest =
    twice_half
    ++ (run_act (combine (scratch (codes "#c")) multiply divisor)
    ∷ (run_act (combine (scratch (codes "#d")) assign dividend)
    ∷ (run_act (combine (scratch (codes "#d")) subtract (scratch (codes "#c")))
    ∷ (when (negative (scratch (codes "#d")) ∷ []) (combine (scratch (codes "#d")) subtract divisor)
    ∷ (when (holds (compare (scratch (codes "#d")) greater_equal divisor) ∷ [])
    (combine (scratch (codes "#d")) subtract divisor)
    ∷ [])))))

-- the quotient in the other cases, to `#d`: 0 where the divisor alone is from 2^31 on
abbrev pub plain_quotient : List Step
plain_quotient =
    run_act (set_spot (scratch (codes "#d")) (pos 0))
    ∷ (when holds_once (set_spot (scratch (codes "#d")) (pos 1))
    ∷ (when both_low (combine (scratch (codes "#d")) assign dividend)
    ∷ (when both_low (combine (scratch (codes "#d")) divide divisor)
    ∷ [])))

-- the rest in the other cases, to `#d`: the dividend where the divisor alone is from 2^31 on
abbrev pub plain_rest : List Step
plain_rest =
    run_act (combine (scratch (codes "#d")) assign dividend)
    ∷ (when holds_once (combine (scratch (codes "#d")) subtract divisor)
    ∷ (when both_low (combine (scratch (codes "#d")) remainder divisor)
    ∷ []))

abbrev pub unsigned_quotient : Items
unsigned_quotient = join (steps_items plain_quotient)
    (first (call_when high_by_low (codes "h_cc_i32_div_high") (steps_items high_quotient)) no_more)

abbrev pub unsigned_rest : Items
unsigned_rest = join (steps_items plain_rest)
    (first (call_when high_by_low (codes "h_cc_i32_rem_high") (steps_items high_rest)) no_more)

-- the two divisions of `#a` by `#b`, with their trap
abbrev pub quotient_u : Items
quotient_u = trap_when by_zero DivideByZero unsigned_quotient

abbrev pub rest_u : Items
rest_u = trap_when by_zero DivideByZero unsigned_rest

abbrev pub div_u : ℕ → ℕ → ℕ → Items
div_u a b r = on_scratch a b r (codes "#d") quotient_u

abbrev pub rem_u : ℕ → ℕ → ℕ → Items
rem_u a b r = on_scratch a b r (codes "#d") rest_u
