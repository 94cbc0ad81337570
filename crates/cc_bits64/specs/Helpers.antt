-- The helpers that operations call beside those of `cc_bits`, by their names, and how these begin.
use Rattle.std.specs.Prelude.{List, [], ◌∷◌, codes}
use Rattle.mc_cmd.specs.Form.{Text}
use Rattle.cc_line.specs.Key.{key_turn_left, key_turn_right}
use Rattle.cc_text.specs.Tables.{NamedHelper, of_steps}
use Rattle.cc_bits.specs.Shifting.{look_row}

abbrev pub beginning : Text
beginning = codes "h_cc_bits64_"

abbrev pub helpers : List NamedHelper
helpers =
    of_steps (codes "h_cc_bits64_left") (look_row key_turn_left)
    ∷ of_steps (codes "h_cc_bits64_right") (look_row key_turn_right) ∷ []
