-- What some lines, numbers and bytes are told as.
use Rattle.std.proofs.Common.{◌≡◌, [], ◌∷◌, ◌++◌, true, false, Some, None, refl}
use Rattle.std.specs.Prelude.{codes, pos, negsuc, replicate}
use Rattle.std.specs.Fmt.{digits}
use Rattle.std.specs.Str.{is_utf8, chars}
use lib.Utf8.{encode}
use Rattle.std.specs.Int.{int_wrap}
use Rattle.hex.specs.Hex.{encode_with}
use Rattle.mc_nbt.specs.declared.value.Kind.TheVariants as kind
use Rattle.mc_nbt.specs.declared.value.Value.TheVariants as value
use Rattle.mc_cmd.specs.declared.TheConstants.{BMIN}
use Rattle.app_words.specs.Act as act
use Rattle.app_words.specs.Script.{act_read, is_low, script_read, bad, digits_number, is_export_name}
use Rattle.app_words.specs.Arguments.{value_of_arg}
use Rattle.mc_cmd.specs.Layout.{trap}
use Rattle.app_words.specs.Lines.{shown, shown_bytes, shown_globals, shown_rows, row_lines}

-- budgets
least_budget : act_read BMIN (codes "tick 512") ≡ Some (act.tick 512)
unfolding digits_number digits
least_budget = refl

low_budget : is_low BMIN (codes "tick 511") ≡ true
unfolding digits_number digits
low_budget = refl

high_budget : is_low BMIN (codes "tick 2147483648") ≡ false
unfolding digits_number digits
high_budget = refl

leading_zero : act_read BMIN (codes "tick 0512") ≡ None
unfolding digits_number digits
leading_zero = refl

no_ticks : act_read BMIN (codes "ticks 0 512") ≡ None
unfolding digits_number digits
no_ticks = refl

-- arguments
two_arguments : act_read BMIN (codes "call f -7 2") ≡ Some (act.call (codes "f") (negsuc 6 ∷ pos 2 ∷ []))
unfolding digits_number digits is_export_name is_utf8 chars encode
two_arguments = refl

minus_zero : act_read BMIN (codes "call f -0") ≡ None
unfolding digits_number digits is_export_name is_utf8 chars encode
minus_zero = refl

two_spaces : act_read BMIN (codes "call f  1") ≡ None
unfolding digits_number digits is_export_name is_utf8 chars encode
two_spaces = refl

greatest_argument : value_of_arg kind.I32 (pos 4294967295) ≡ Some (value.I32 (negsuc 0))
unfolding int_wrap
greatest_argument = refl

beyond_greatest : value_of_arg kind.I32 (pos 4294967296) ≡ None
beyond_greatest = refl

least_argument : value_of_arg kind.I32 (negsuc 2147483647) ≡ Some (value.I32 (negsuc 2147483647))
unfolding int_wrap
least_argument = refl

beyond_least : value_of_arg kind.I32 (negsuc 2147483648) ≡ None
beyond_least = refl

-- addresses
last_address : act_read BMIN (codes "memory 4294967295 1") ≡ Some (act.memory 4294967295 1)
unfolding digits_number digits
last_address = refl

beyond_last : act_read BMIN (codes "memory 4294967296 1") ≡ None
unfolding digits_number digits
beyond_last = refl

too_many_bytes : act_read BMIN (codes "memory 0 65537") ≡ None
unfolding digits_number digits
too_many_bytes = refl

-- lines are numbered with those that do nothing
third_line_bad : script_read (codes "# a" ++ (10 ∷ 10 ∷ codes "tick 511")) ≡ bad 3 true
unfolding digits_number digits
third_line_bad = refl

-- bytes
two_bytes : shown_bytes 0 2 (Some (104 ∷ 105 ∷ [])) ≡ codes "6869" ++ (10 ∷ [])
unfolding encode_with
two_bytes = refl

one_byte_too_many : shown_bytes 1 2 (Some (104 ∷ 105 ∷ [])) ≡ codes "outside" ++ (10 ∷ [])
one_byte_too_many = refl

-- the row at the address 16, and a row of zeros
second_row : row_lines 1 16 (1 ∷ replicate 15 0) ≡ codes "00000010 01000000000000000000000000000000" ++ (10 ∷ [])
unfolding encode_with digits
second_row = refl

row_of_zeros : shown_rows (Some (replicate 16 0)) ≡ []
row_of_zeros = refl

-- globals and answers
one_global : shown_globals (Some (value.I32 (pos 1048576) ∷ [])) ≡ codes "global 0 1048576" ++ (10 ∷ [])
unfolding digits
one_global = refl

division_by_zero : shown (Some (trap 2)) ≡ codes "trap integer divide by zero" ++ (10 ∷ [])
division_by_zero = refl

no_answer : shown None ≡ codes "none" ++ (10 ∷ [])
no_answer = refl
