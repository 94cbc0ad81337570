-- And, or and xor of the numbers in `#a` and `#b`, by their bytes and standing tables; and the ones of the number in
-- `#a`, by its bytes and a table of bytes.
use Rattle.std.specs.Prelude.{pos, List, [], ◌∷◌, ◌++◌, codes}
use Rattle.mc_cmd.specs.Form.{Text}
use Rattle.mc_cmd.specs.Command.{assign, add, subtract, multiply, divide, remainder}
use Rattle.mc_cmd.specs.steps.OpenText.{place_of}
use Rattle.cc_line.specs.declared.table.Table.TheVariants.{Ones}
use Rattle.cc_line.specs.Key.{score_half_word, key_low, key_high, key_and, key_raised}
use Rattle.cc_line.specs.Step.{Step}
use Rattle.cc_line.specs.OpenStep.{OpenStep}
use Rattle.cc_line.specs.Item.{call_item, fill_item, Items, no_more, first, join, steps_items}
use Rattle.cc_bits.specs.Line.{sets, makes, choice_site, clears, tells, lays, looks, finds, takes, still}

-- the lowest digit of a score is told under a key, and the score goes down by a digit; the base is in `#m`
abbrev pub digit : Text → Text → List Step
digit h k =
    makes (codes "#c") assign h
    ∷ makes (codes "#c") remainder (codes "#m")
    ∷ tells k (codes "#c")
    ∷ makes h divide (codes "#m") ∷ []

-- a score in two halves: the low one, from 0 up, and the high one, from -32768 to 32767; as places of a list of 65536
-- they are those of the score without its sign
abbrev pub halves : Text → Text → Text → List Step
halves h low high =
    makes (codes "#c") assign h
    ∷ makes (codes "#c") remainder score_half_word
    ∷ tells low (codes "#c")
    ∷ makes h divide score_half_word
    ∷ tells high h ∷ []

-- both numbers
abbrev pub told_steps : List Step
told_steps =
    clears ∷ (halves (codes "#a") (codes "a0") (codes "a1") ++ halves (codes "#b") (codes "b0") (codes "b1"))

-- the bytes of a half, the low one first
abbrev pub bytes_of : Text → Text → Text → List OpenStep
bytes_of half low high = takes key_low low half ∷ takes key_high high half ∷ []

-- the bytes of both numbers, from the lowest on
abbrev pub split_steps : List OpenStep
split_steps =
    bytes_of (codes "a0") (codes "a2") (codes "a3") ++ (bytes_of (codes "a1") (codes "a4") (codes "a5")
    ++ (bytes_of (codes "b0") (codes "b2") (codes "b3") ++ bytes_of (codes "b1") (codes "b4") (codes "b5")))

-- to a score what two bytes have both, as a low byte of a half and as a high one
abbrev pub find_low : Text → Text → Text → OpenStep
find_low h j k = finds key_and h (place_of j ∷ place_of k ∷ [])

abbrev pub find_high : Text → Text → Text → OpenStep
find_high h j k = finds key_raised h (place_of j ∷ place_of k ∷ [])

abbrev pub adds_up : OpenStep
adds_up = still (makes (codes "#d") add (codes "#c"))

-- the result in `#d`, from its highest byte down
abbrev pub found_steps : List OpenStep
found_steps =
    find_high (codes "#d") (codes "a5") (codes "b5")
    ∷ find_low (codes "#c") (codes "a4") (codes "b4")
    ∷ adds_up
    ∷ still (makes (codes "#d") multiply score_half_word)
    ∷ find_high (codes "#c") (codes "a3") (codes "b3")
    ∷ adds_up
    ∷ find_low (codes "#c") (codes "a2") (codes "b2")
    ∷ adds_up ∷ []

-- the and of both numbers
abbrev pub both_items : Items
both_items =
    join (steps_items told_steps)
    (first (fill_item (codes "h_cc_bits_bytes") choice_site split_steps)
    (first (fill_item (codes "h_cc_bits_both") choice_site found_steps)
    no_more))

-- the sum of both numbers in `#e`, from which the and is taken off
abbrev pub sum_steps : List Step
sum_steps = makes (codes "#e") assign (codes "#a") ∷ makes (codes "#e") add (codes "#b") ∷ []

abbrev pub less_both : Step
less_both = makes (codes "#e") subtract (codes "#d")

-- the or is the sum without the and, and the xor without twice the and
abbrev pub or_body : Items
or_body = join (steps_items sum_steps) (join both_items (steps_items (less_both ∷ [])))

abbrev pub xor_body : Items
xor_body = join (steps_items sum_steps) (join both_items (steps_items (less_both ∷ less_both ∷ [])))

-- by helpers, since the lines are many: the and to `#d`, the others to `#e`
abbrev pub and_items : Items
and_items = first (call_item (codes "h_cc_bits_and") both_items) no_more

abbrev pub or_items : Items
or_items = first (call_item (codes "h_cc_bits_or") or_body) no_more

abbrev pub xor_items : Items
xor_items = first (call_item (codes "h_cc_bits_xor") xor_body) no_more

-- ---- ones

-- three bytes from the lowest on, and what is left, which is from -128 to 127: as a place of a list that is a byte
abbrev pub bytes_steps : List Step
bytes_steps =
    sets (codes "#m") (pos 256)
    ∷ clears
    ∷ (digit (codes "#a") (codes "a0") ++ (digit (codes "#a") (codes "a1") ++ (digit (codes "#a") (codes "a2")
    ++ (tells (codes "a3") (codes "#a") ∷ []))))

-- the ones of a byte to a score; those of one more byte to those in `#d`
abbrev pub look_ones : Text → Text → OpenStep
look_ones h k = looks h (place_of k ∷ [])

abbrev pub more_ones : Text → List OpenStep
more_ones k = look_ones (codes "#c") k ∷ still (makes (codes "#d") add (codes "#c")) ∷ []

abbrev pub ones_steps : List OpenStep
ones_steps =
    look_ones (codes "#d") (codes "a3")
    ∷ (more_ones (codes "a2") ++ (more_ones (codes "a1") ++ more_ones (codes "a0")))

abbrev pub popcnt_items : Items
popcnt_items =
    join (steps_items bytes_steps)
    (first (fill_item (codes "h_cc_bits_popcnt") choice_site (still (lays Ones) ∷ ones_steps)) no_more)
