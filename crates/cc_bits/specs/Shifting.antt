-- Shifts and rotations of the number in `#a` by the count in `#b`, with factors and divisors from standing tables.
use Rattle.std.specs.Prelude.{pos, negsuc, List, [], ◌∷◌, ◌++◌, codes}
use Rattle.mc_nbt.specs.Tree.{place}
use Rattle.mc_cmd.specs.Form.{Text}
use Rattle.mc_cmd.specs.Command.{assign, add, subtract, multiply, divide, remainder, exactly, from, up_to}
use Rattle.mc_cmd.specs.steps.OpenText.{step, place_of}
use Rattle.cc_line.specs.Key.{score_two, score_thirty_two, score_least}
use Rattle.cc_line.specs.Key.{key_left, key_right_signed, key_right, key_turn_left, key_turn_right}
use Rattle.cc_line.specs.Place.{scratch}
use Rattle.cc_line.specs.Step.{set_spot, Step}
use Rattle.cc_line.specs.OpenStep.{OpenStep}
use Rattle.cc_line.specs.Item.{fill_item, Items, first, join, steps_items}
use Rattle.cc_bits.specs.Line.{makes, where_in, makes_in, choice_site, clears, tells, finds}

-- the count modulo 32, and the compound that tells it
abbrev pub count_steps : List Step
count_steps =
    makes (codes "#b") remainder score_thirty_two
    ∷ clears
    ∷ tells (codes "k") (codes "#b") ∷ []

-- what the standing table under a key has for the count: a number to `#p`; two to `#p` and `#q`
abbrev pub look_number : Text → List OpenStep
look_number k = finds k (codes "#p") (place_of (codes "k") ∷ []) ∷ []

abbrev pub look_row : Text → List OpenStep
look_row k =
    finds k (codes "#p") (place_of (codes "k") ∷ step (place (pos 0)) ∷ [])
    ∷ finds k (codes "#q") (place_of (codes "k") ∷ step (place (pos 1)) ∷ []) ∷ []

-- the count, a helper that it fills, and steps
abbrev pub filled_items : Text → List OpenStep → List Step → Items
filled_items f ls xs = join (steps_items count_steps) (first (fill_item f choice_site ls) (steps_items xs))

-- to the left: by a factor
abbrev pub shl_steps : List Step
shl_steps = makes (codes "#a") multiply (codes "#p") ∷ []

-- to the right with the sign: by a divisor, and for 31 by a second one
abbrev pub shr_s_steps : List Step
shr_s_steps =
    makes (codes "#a") divide (codes "#p")
    ∷ makes_in (exactly (pos 31)) (codes "#b") (codes "#a") divide score_two ∷ []

-- half the number in `#c`, without its sign
abbrev pub half_steps : List Step
half_steps =
    makes (codes "#c") assign (codes "#a")
    ∷ makes (codes "#c") divide score_two
    ∷ makes_in (up_to (negsuc 0)) (codes "#c") (codes "#c") subtract score_least ∷ []

-- to the right with zeros: half the number by a divisor, but for 0
abbrev pub shr_u_steps : List Step
shr_u_steps = half_steps ++ (
    makes (codes "#c") divide (codes "#p")
    ∷ makes_in (from (pos 1)) (codes "#b") (codes "#a") assign (codes "#c") ∷ []
    )

-- a rotation: what stays by a factor, and what comes in, half the number by a divisor, but for 0
abbrev pub rotate_steps : List Step
rotate_steps = half_steps ++ (
    makes (codes "#c") divide (codes "#q")
    ∷ where_in (exactly (pos 0)) (codes "#b") (set_spot (scratch (codes "#c")) (pos 0))
    ∷ makes (codes "#a") multiply (codes "#p")
    ∷ makes (codes "#a") add (codes "#c") ∷ []
    )

abbrev pub shl_items : Items
shl_items = filled_items (codes "h_cc_bits_shl") (look_number key_left) shl_steps

abbrev pub shr_s_items : Items
shr_s_items = filled_items (codes "h_cc_bits_shr_s") (look_number key_right_signed) shr_s_steps

abbrev pub shr_u_items : Items
shr_u_items = filled_items (codes "h_cc_bits_shr_u") (look_number key_right) shr_u_steps

abbrev pub rotl_items : Items
rotl_items = filled_items (codes "h_cc_bits_rotl") (look_row key_turn_left) rotate_steps

abbrev pub rotr_items : Items
rotr_items = filled_items (codes "h_cc_bits_rotr") (look_row key_turn_right) rotate_steps
