-- The items of the division of i64 in pieces: its beginning, eight turns, and its end.
use Rattle.std.specs.Prelude.{ℕ, zero, suc, ◌+◌, List, [], ◌∷◌, ◌++◌, ℤ, pos, negsuc, codes}
use Rattle.mc_cmd.specs.Form.{Text}
use Rattle.mc_cmd.specs.Command.{assign, add, subtract, multiply, divide, remainder, less, equal, greater}
use Rattle.mc_cmd.specs.Command.{greater_equal, exactly, up_to, between}
use Rattle.wm_ast.specs.declared.answer.TrapKind.TheVariants.{DivideByZero, Overflow}
use Rattle.wm_ast.specs.declared.operator.BinaryOp.{BinaryOp}
use Rattle.wm_ast.specs.declared.operator.BinaryOp.TheVariants.{DivS, DivU, RemS, RemU}
use Rattle.cc_line.specs.Place.{Spot, scratch}
use Rattle.cc_line.specs.Step.{set_spot, increase, decrease, combine, load_place, keep_place, in_range, compare, Cond}
use Rattle.cc_line.specs.Step.{holds, fails, Step, run_act, when}
use Rattle.cc_line.specs.Item.{Items, no_more, first, step_item, call_item, call_when, join, steps_items}
use Rattle.cc_line.specs.Routine.{trap_when}

-- ---- the scores, of each pair the low word first: the dividend, which becomes the quotient; the divisor; the
-- remainder; the divisor's words for comparisons without sign

abbrev pub dividend_low : Spot
dividend_low = scratch (codes "#d")

abbrev pub dividend_high : Spot
dividend_high = scratch (codes "#e")

abbrev pub divisor_low : Spot
divisor_low = scratch (codes "#m")

abbrev pub divisor_high : Spot
divisor_high = scratch (codes "#n")

abbrev pub remainder_low : Spot
remainder_low = scratch (codes "#p")

abbrev pub remainder_high : Spot
remainder_high = scratch (codes "#r")

abbrev pub order_low : Spot
order_low = scratch (codes "#u")

abbrev pub order_high : Spot
order_high = scratch (codes "#v")

-- the least number; 1 where the result is to be negated; how often the turns are still to be run; a choice or a digit
abbrev pub least_score : Spot
least_score = scratch (codes "#k")

abbrev pub sign : Spot
sign = scratch (codes "#s")

abbrev pub score_left : Text
score_left = codes "#g"

abbrev pub choice : Spot
choice = scratch (codes "#c")

abbrev pub least : ℤ
least = negsuc 2147483647

-- a spot is below 0; it is this number
abbrev pub negative : Spot → Cond
negative x = holds (in_range x (up_to (negsuc 0)))

abbrev pub is_number : Spot → ℤ → Cond
is_number x z = holds (in_range x (exactly z))

-- ---- traps

abbrev pub by_zero : List Cond
by_zero = is_number divisor_low (pos 0) ∷ (is_number divisor_high (pos 0) ∷ [])

-- whether the divisor is -1, and besides whether the dividend is the least number: both is 2
abbrev pub count_greatest : List Step
count_greatest =
    run_act (set_spot choice (pos 0))
    ∷ (when
    (is_number divisor_low (negsuc 0) ∷ (is_number divisor_high (negsuc 0) ∷ []))
    (set_spot choice (pos 1))
    ∷ (when
    (is_number dividend_low (pos 0) ∷ (is_number dividend_high least ∷ []))
    (increase choice 1)
    ∷ []))

abbrev pub too_great : List Cond
too_great = is_number choice (pos 2) ∷ []

-- ---- signs

-- a pair of words negated
abbrev pub minus_steps : Spot → Spot → List Step
minus_steps l h =
    run_act (set_spot (scratch (codes "#f")) (negsuc 0))
    ∷ (run_act (combine l multiply (scratch (codes "#f")))
    ∷ (run_act (combine h multiply (scratch (codes "#f")))
    ∷ (when (fails (in_range l (exactly (pos 0))) ∷ []) (decrease h 1)
    ∷ [])))

-- the dividend negated, or the quotient, where conditions hold
abbrev pub minus_dividend : List Cond → Items
minus_dividend cs =
    first (call_when cs (codes "h_cc_div_minus") (steps_items (minus_steps dividend_low dividend_high))) no_more

abbrev pub minus_divisor : List Cond → Items
minus_divisor cs =
    first (call_when cs (codes "h_cc_div_minus_by") (steps_items (minus_steps divisor_low divisor_high))) no_more

-- the sign of a remainder is the dividend's; a quotient has one where just one of the two has
abbrev pub remainder_sign : List Step
remainder_sign =
    run_act (set_spot sign (pos 0)) ∷ (when (negative dividend_high ∷ []) (set_spot sign (pos 1)) ∷ [])

abbrev pub quotient_sign : List Step
quotient_sign =
    run_act (set_spot sign (pos 0))
    ∷ (when (negative dividend_high ∷ []) (set_spot sign (pos 1))
    ∷ (when (negative divisor_high ∷ []) (increase sign 1)
    ∷ []))

-- the sign told, and both numbers without theirs
abbrev pub magnitudes : List Step → Items
magnitudes xs =
    join (steps_items xs)
    (join (minus_dividend (negative dividend_high ∷ [])) (minus_divisor (negative divisor_high ∷ [])))

-- ---- a divisor below 32,768: four digits to the base 65,536, two of each word

-- the upper digit of a word
abbrev pub upper_digit : Spot → List Step
upper_digit x =
    run_act (combine choice assign x)
    ∷ (run_act (combine choice divide (scratch (codes "#h")))
    ∷ (run_act (combine choice remainder (scratch (codes "#h")))
    ∷ []))

-- the remainder so far above it
abbrev pub behind_remainder : List Step
behind_remainder =
    run_act (combine remainder_low multiply (scratch (codes "#h")))
    ∷ (run_act (combine choice add remainder_low)
    ∷ [])

-- both digits of a word divided, the upper one standing in the choice's score
abbrev pub divide_word : Spot → List Step
divide_word x =
    run_act (combine remainder_low assign choice)
    ∷ (run_act (combine remainder_low remainder divisor_low)
    ∷ (run_act (combine choice divide divisor_low)
    ∷ (run_act (combine choice multiply (scratch (codes "#h")))
    ∷ (run_act (combine x remainder (scratch (codes "#h")))
    ∷ (run_act (combine remainder_low multiply (scratch (codes "#h")))
    ∷ (run_act (combine x add remainder_low)
    ∷ (run_act (combine remainder_low assign x)
    ∷ (run_act (combine remainder_low remainder divisor_low)
    ∷ (run_act (combine x divide divisor_low)
    ∷ (run_act (combine x add choice)
    ∷ []))))))))))

-- the whole division, which leaves no turns
abbrev pub small_steps : List Step
small_steps =
    run_act (set_spot (scratch score_left) (pos 0))
    ∷ (run_act (set_spot (scratch (codes "#h")) (pos 65536))
    ∷ (upper_digit dividend_high
    ++ (divide_word dividend_high
    ++ (upper_digit dividend_low
    ++ (behind_remainder
    ++ divide_word dividend_low)))))

-- ---- the beginning

-- the operands from their places
abbrev pub load_steps : ℕ → List Step
load_steps a =
    run_act (load_place (codes "#d") a)
    ∷ (run_act (load_place (codes "#e") (a + 1))
    ∷ (run_act (load_place (codes "#m") (a + 2))
    ∷ (run_act (load_place (codes "#n") (a + 3))
    ∷ [])))

-- what the turns need, for 64 of them
abbrev pub turn_scores : List Step
turn_scores =
    run_act (set_spot least_score least)
    ∷ (run_act (combine order_low assign divisor_low)
    ∷ (run_act (combine order_low add least_score)
    ∷ (run_act (combine order_high assign divisor_high)
    ∷ (run_act (combine order_high add least_score)
    ∷ (run_act (set_spot remainder_low (pos 0))
    ∷ (run_act (set_spot remainder_high (pos 0))
    ∷ (run_act (set_spot (scratch score_left) (pos 8))
    ∷ [])))))))

abbrev pub by_small : List Cond
by_small = is_number divisor_high (pos 0) ∷ (holds (in_range divisor_low (between (pos 1) (pos 32767))) ∷ [])

-- a dividend below 2^32 that isn't divided yet: its word stands above, and 32 turns do
abbrev pub of_short : List Cond
of_short = is_number (scratch score_left) (pos 8) ∷ (is_number dividend_high (pos 0) ∷ [])

abbrev pub short_steps : List Step
short_steps =
    run_act (set_spot (scratch score_left) (pos 4))
    ∷ (run_act (combine dividend_high assign dividend_low)
    ∷ (run_act (set_spot dividend_low (pos 0))
    ∷ []))

abbrev pub prepare : Items
prepare =
    join (steps_items turn_scores)
    (first (call_when by_small (codes "h_cc_div_small") (steps_items small_steps))
    (first (call_when of_short (codes "h_cc_div_short") (steps_items short_steps))
    no_more))

-- what follows when they are loaded: traps, signs, and what the turns need
abbrev pub loaded_items : BinaryOp → Items
loaded_items DivS =
    trap_when by_zero DivideByZero
    (join (steps_items count_greatest)
    (trap_when too_great Overflow (join (magnitudes quotient_sign) prepare)))
loaded_items DivU = trap_when by_zero DivideByZero prepare
loaded_items RemS = trap_when by_zero DivideByZero (join (magnitudes remainder_sign) prepare)
loaded_items RemU = trap_when by_zero DivideByZero prepare
loaded_items _ = no_more

-- the beginning, of operands in the places from one on
abbrev pub begin_items : BinaryOp → ℕ → Items
begin_items DivS a = join (steps_items (load_steps a)) (loaded_items DivS)
begin_items DivU a = join (steps_items (load_steps a)) (loaded_items DivU)
begin_items RemS a = join (steps_items (load_steps a)) (loaded_items RemS)
begin_items RemU a = join (steps_items (load_steps a)) (loaded_items RemU)
begin_items _ a = no_more

-- ---- turns

-- the remainder and the dividend doubled as one number, and whether the divisor is in the remainder then
abbrev pub double : List Step
double =
    run_act (set_spot choice (pos 0))
    ∷ (when (negative remainder_high ∷ []) (set_spot choice (pos 1))
    ∷ (run_act (combine remainder_high add remainder_high)
    ∷ (when (negative remainder_low ∷ []) (increase remainder_high 1)
    ∷ (run_act (combine remainder_low add remainder_low)
    ∷ (when (negative dividend_high ∷ []) (increase remainder_low 1)
    ∷ (run_act (combine dividend_high add dividend_high)
    ∷ (when (negative dividend_low ∷ []) (increase dividend_high 1)
    ∷ (run_act (combine dividend_low add dividend_low)
    ∷ (run_act (combine (scratch (codes "#x")) assign remainder_low)
    ∷ (run_act (combine (scratch (codes "#x")) add least_score)
    ∷ (run_act (combine (scratch (codes "#y")) assign remainder_high)
    ∷ (run_act (combine (scratch (codes "#y")) add least_score)
    ∷ (when (holds (compare (scratch (codes "#y")) greater order_high) ∷ []) (set_spot choice (pos 1))
    ∷ (when
    (holds (compare (scratch (codes "#y")) equal order_high)
    ∷ (holds (compare (scratch (codes "#x")) greater_equal order_low) ∷ []))
    (set_spot choice (pos 1))
    ∷ []))))))))))))))

-- the divisor taken from the remainder, and the quotient's bit set
abbrev pub take_steps : List Step
take_steps =
    when (holds (compare (scratch (codes "#x")) less order_low) ∷ []) (decrease remainder_high 1)
    ∷ (run_act (combine remainder_low subtract divisor_low)
    ∷ (run_act (combine remainder_high subtract divisor_high)
    ∷ (run_act (increase dividend_low 1)
    ∷ [])))

abbrev pub chosen : List Cond
chosen = is_number choice (pos 1) ∷ []

abbrev pub turn : Items
turn =
    join (steps_items double) (first (call_when chosen (codes "h_cc_div_take") (steps_items take_steps)) no_more)

-- so many turns, and then items
abbrev pub turn_calls : ℕ → Items → Items
turn_calls zero xs = xs
turn_calls (suc k) xs = first (call_item (codes "h_cc_div_turn") turn) (turn_calls k xs)

-- eight turns, which are one run of them
abbrev pub turns_items : Items
turns_items = turn_calls 8 (first (step_item (run_act (decrease (scratch score_left) 1))) no_more)

-- ---- the end

abbrev pub is_negated : List Cond
is_negated = is_number sign (pos 1) ∷ []

-- two words to the places from one on
abbrev pub keep_steps : ℕ → Text → Text → List Step
keep_steps a l h = run_act (keep_place a l) ∷ (run_act (keep_place (a + 1) h) ∷ [])

abbrev pub take_remainder : List Step
take_remainder =
    run_act (combine dividend_low assign remainder_low) ∷ (run_act (combine dividend_high assign remainder_high) ∷ [])

-- the end, with the result to the places from one on
abbrev pub end_items : BinaryOp → ℕ → Items
end_items DivS a = join (minus_dividend is_negated) (steps_items (keep_steps a (codes "#d") (codes "#e")))
end_items DivU a = steps_items (keep_steps a (codes "#d") (codes "#e"))
end_items RemS a =
    join (steps_items take_remainder)
    (join (minus_dividend is_negated) (steps_items (keep_steps a (codes "#d") (codes "#e"))))
end_items RemU a = steps_items (keep_steps a (codes "#p") (codes "#r"))
end_items _ a = no_more

-- ---- the most that the beginning and the end weigh

abbrev pub begin_most : BinaryOp → ℕ
begin_most DivS = 87
begin_most DivU = 59
begin_most RemS = 76
begin_most RemU = 59
begin_most _ = 0

abbrev pub end_most : BinaryOp → ℕ
end_most DivS = 11
end_most DivU = 4
end_most RemS = 13
end_most RemU = 4
end_most _ = 0
