-- The helpers that divisions call, by their names, and how these begin.
use Rattle.std.specs.Prelude.{List, [], ◌∷◌, codes}
use Rattle.mc_cmd.specs.Form.{Text}
use Rattle.cc_line.specs.Item.{steps_items}
use Rattle.cc_text.specs.Tables.{NamedHelper, of_items}
use Rattle.cc_div64.specs.Division.{dividend_high, dividend_low, divisor_high, divisor_low, minus_steps, short_steps}
use Rattle.cc_div64.specs.Division.{small_steps, take_steps, turn}

abbrev pub beginning : Text
beginning = codes "h_cc_div_"

abbrev pub helpers : List NamedHelper
helpers =
    of_items (codes "h_cc_div_minus") (steps_items (minus_steps dividend_low dividend_high))
    ∷ of_items (codes "h_cc_div_minus_by") (steps_items (minus_steps divisor_low divisor_high))
    ∷ of_items (codes "h_cc_div_small") (steps_items small_steps)
    ∷ of_items (codes "h_cc_div_short") (steps_items short_steps)
    ∷ of_items (codes "h_cc_div_turn") turn
    ∷ of_items (codes "h_cc_div_take") (steps_items take_steps) ∷ []
