-- The helpers that operations call, by their names, and how these begin.
use Rattle.std.specs.Prelude.{List, [], ◌∷◌, codes}
use Rattle.mc_cmd.specs.Form.{Text}
use Rattle.cc_line.specs.declared.table.Table.TheVariants as tables
use Rattle.cc_text.specs.Tables.{NamedHelper, of_items, of_steps}
use Rattle.cc_line.specs.Key.{key_left, key_right_signed, key_right, key_turn_left, key_turn_right}
use Rattle.cc_bits.specs.Digit.{both_items, found_steps, ones_steps, or_body, split_steps, xor_body}
use Rattle.cc_bits.specs.Line.{lays, still}
use Rattle.cc_bits.specs.Shifting.{look_number, look_row}

abbrev pub beginning : Text
beginning = codes "h_cc_bits_"

abbrev pub helpers : List NamedHelper
helpers =
    of_steps (codes "h_cc_bits_bytes") split_steps
    ∷ of_steps (codes "h_cc_bits_both") found_steps
    ∷ of_items (codes "h_cc_bits_and") both_items
    ∷ of_items (codes "h_cc_bits_or") or_body
    ∷ of_items (codes "h_cc_bits_xor") xor_body
    ∷ of_steps (codes "h_cc_bits_popcnt") (still (lays tables.Ones) ∷ ones_steps)
    ∷ of_steps (codes "h_cc_bits_shl") (look_number key_left)
    ∷ of_steps (codes "h_cc_bits_shr_s") (look_number key_right_signed)
    ∷ of_steps (codes "h_cc_bits_shr_u") (look_number key_right)
    ∷ of_steps (codes "h_cc_bits_rotl") (look_row key_turn_left)
    ∷ of_steps (codes "h_cc_bits_rotr") (look_row key_turn_right) ∷ []
