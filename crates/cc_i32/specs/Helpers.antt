-- The helpers that operations call, by their names, and how these begin.
use Rattle.std.specs.Prelude.{List, [], ◌∷◌, codes}
use Rattle.mc_cmd.specs.Form.{Text}
use Rattle.cc_line.specs.Item.{steps_items}
use Rattle.cc_text.specs.Tables.{NamedHelper, of_items}
use Rattle.cc_i32.specs.Division.{high_quotient, high_rest}

abbrev pub beginning : Text
beginning = codes "h_cc_i32_"

abbrev pub helpers : List NamedHelper
helpers =
    of_items (codes "h_cc_i32_div_high") (steps_items high_quotient)
    ∷ of_items (codes "h_cc_i32_rem_high") (steps_items high_rest) ∷ []
