-- Shifts and rotations of the number whose low half is in `#a` and whose high half is in `#b`, by the count in `#k`:
-- the halves change their places for a count from 32 on, and the rest of the count below 32 moves bits within and
-- between them, by factors and divisors from a standing table.
use Rattle.std.specs.Prelude.{ℕ, suc, pos, negsuc, List, [], ◌∷◌, ◌++◌, codes}
use Rattle.mc_cmd.specs.Form.{Text}
use Rattle.mc_cmd.specs.Command.{Range, assign, add, subtract, multiply, divide, remainder, from, up_to}
use Rattle.cc_line.specs.Key.{score_two, score_thirty_two, score_least, key_turn_left, key_turn_right}
use Rattle.cc_line.specs.Place.{scratch}
use Rattle.cc_line.specs.Step.{Act, set_spot, in_range, holds, Step, when}
use Rattle.cc_line.specs.Item.{fill_item, Items, no_more, first, join, steps_items}
use Rattle.cc_bits.specs.Line.{sets, makes, where_in, makes_in, choice_site, clears, tells, loads, keeps}
use Rattle.cc_bits.specs.Line.{one_step}
use Rattle.cc_bits.specs.Shifting.{look_row, half_steps}

-- ---- the count

-- a count of a whole word or more, modulo 64
abbrev pub far : Range
far = from (pos 32)

abbrev pub modulo_64 : List Step
modulo_64 = sets (codes "#m") (pos 64) ∷ makes (codes "#k") remainder (codes "#m") ∷ []

abbrev pub modulo_32 : List Step
modulo_32 = makes (codes "#k") remainder score_thirty_two ∷ []

-- the same turn the other way
abbrev pub negate_count : List Step
negate_count = sets (codes "#m") (negsuc 0) ∷ makes (codes "#k") multiply (codes "#m") ∷ []

-- ---- by a whole word

-- to the left, zeros coming in; to the right the same
abbrev pub word_left : List Step
word_left =
    makes_in far (codes "#k") (codes "#b") assign (codes "#a")
    ∷ where_in far (codes "#k") (set_spot (scratch (codes "#a")) (pos 0)) ∷ []

abbrev pub word_right : List Step
word_right =
    makes_in far (codes "#k") (codes "#a") assign (codes "#b")
    ∷ where_in far (codes "#k") (set_spot (scratch (codes "#b")) (pos 0)) ∷ []

-- an act on a count from 32 on, where the high half is in a range
abbrev pub where_high : Range → Act → Step
where_high r a =
    when (holds (in_range (scratch (codes "#k")) far) ∷ (holds (in_range (scratch (codes "#b")) r) ∷ [])) a

-- to the right, copies of the sign coming in
abbrev pub word_right_signed : List Step
word_right_signed =
    makes_in far (codes "#k") (codes "#a") assign (codes "#b")
    ∷ where_high (from (pos 0)) (set_spot (scratch (codes "#b")) (pos 0))
    ∷ where_high (up_to (negsuc 0)) (set_spot (scratch (codes "#b")) (negsuc 0)) ∷ []

-- a rotation: the halves change places
abbrev pub word_turned : List Step
word_turned =
    makes (codes "#c") assign (codes "#a")
    ∷ makes_in far (codes "#k") (codes "#a") assign (codes "#b")
    ∷ makes_in far (codes "#k") (codes "#b") assign (codes "#c") ∷ []

-- ---- by less than a word, with the numbers `#p` and `#q` of the count

-- half of each word, rounded down, to `#c` and `#d`
abbrev pub halve_both : List Step
halve_both =
    makes (codes "#c") assign (codes "#a")
    ∷ makes (codes "#d") assign (codes "#b")
    ∷ makes (codes "#c") divide score_two
    ∷ makes (codes "#d") divide score_two ∷ []

-- without its sign
abbrev pub without_sign : Text → Step
without_sign h = makes_in (up_to (negsuc 0)) h h subtract score_least

abbrev pub low_unsigned : List Step
low_unsigned = without_sign (codes "#c") ∷ []

-- by the divisor
abbrev pub divide_both : List Step
divide_both = makes (codes "#c") divide (codes "#q") ∷ makes (codes "#d") divide (codes "#q") ∷ []

-- to the left: what stays by the factor, and into the high half what falls out of the low one
abbrev pub shift_left : List Step
shift_left = half_steps ++ (
    makes (codes "#c") divide (codes "#q")
    ∷ makes (codes "#a") multiply (codes "#p")
    ∷ makes (codes "#b") multiply (codes "#p")
    ∷ makes_in (from (pos 1)) (codes "#k") (codes "#b") add (codes "#c") ∷ []
    )

-- a rotation to the left: into each half what falls out of the other one
abbrev pub turn_left : List Step
turn_left = halve_both ++ (low_unsigned ++ (without_sign (codes "#d") ∷ (divide_both ++ (
    makes (codes "#a") multiply (codes "#p")
    ∷ makes (codes "#b") multiply (codes "#p")
    ∷ makes_in (from (pos 1)) (codes "#k") (codes "#a") add (codes "#d")
    ∷ makes_in (from (pos 1)) (codes "#k") (codes "#b") add (codes "#c") ∷ []
    ))))

-- to the right: what stays by the divisor, and into the low half what falls out of the high one, by the factor
abbrev pub join_right : List Step
join_right =
    makes (codes "#b") multiply (codes "#p")
    ∷ makes (codes "#c") add (codes "#b")
    ∷ makes_in (from (pos 1)) (codes "#k") (codes "#a") assign (codes "#c")
    ∷ makes_in (from (pos 1)) (codes "#k") (codes "#b") assign (codes "#d") ∷ []

abbrev pub shift_right : List Step
shift_right = halve_both ++ (low_unsigned ++ (without_sign (codes "#d") ∷ (divide_both ++ join_right)))

abbrev pub shift_right_signed : List Step
shift_right_signed = halve_both ++ (low_unsigned ++ (divide_both ++ join_right))

-- ---- on places

-- the count is told, the helper looks its two numbers up in a standing table, and steps follow
abbrev pub tell_count : List Step
tell_count = clears ∷ tells (codes "k") (codes "#k") ∷ []

abbrev pub looked_items : Text → Text → List Step → Items
looked_items f k xs =
    join (steps_items tell_count) (first (fill_item f choice_site (look_row k)) (steps_items xs))

-- from the places a and a + 1 of the number and the place a + 2 of the count's low half, and back
abbrev pub three_loads : ℕ → Items → Items
three_loads a xs =
    one_step (loads (codes "#a") a)
    (one_step (loads (codes "#b") (suc a)) (one_step (loads (codes "#k") (suc (suc a))) xs))

abbrev pub both_kept : ℕ → Items
both_kept a = one_step (keeps a (codes "#a")) (one_step (keeps (suc a) (codes "#b")) no_more)

-- the steps before the look-up, and those behind it
abbrev pub shift_items : Text → Text → List Step → List Step → ℕ → Items
shift_items f k before after a =
    three_loads a (join (steps_items before) (join (looked_items f k after) (both_kept a)))

abbrev pub left_items : List Step → List Step → ℕ → Items
left_items before after = shift_items (codes "h_cc_bits64_left") key_turn_left before after

abbrev pub right_items : List Step → List Step → ℕ → Items
right_items before after = shift_items (codes "h_cc_bits64_right") key_turn_right before after

-- the count's steps round what it does by a whole word
abbrev pub by_words : List Step → List Step
by_words xs = modulo_64 ++ (xs ++ modulo_32)

abbrev pub shl_items : ℕ → Items
shl_items = left_items (by_words word_left) shift_left

abbrev pub shr_u_items : ℕ → Items
shr_u_items = right_items (by_words word_right) shift_right

abbrev pub shr_s_items : ℕ → Items
shr_s_items = right_items (by_words word_right_signed) shift_right_signed

abbrev pub rotl_items : ℕ → Items
rotl_items = left_items (by_words word_turned) turn_left

abbrev pub rotr_items : ℕ → Items
rotr_items = left_items (negate_count ++ by_words word_turned) turn_left
