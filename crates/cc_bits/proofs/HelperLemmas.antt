-- The helpers that operations call have names of the crate's list.
use Rattle.std.proofs.Common.{◌≡◌, refl, ℕ, List, [], ◌∷◌, Some, arith}
use Rattle.std.specs.Prelude.{codes}
use Rattle.wm_ast.specs.declared.operation.NumOp.{NumOp}
use Rattle.wm_ast.specs.declared.operation.NumOp.TheVariants.{I32Clz, I32Ctz, I32Popcnt, I32Extend8S, I32Extend16S, I32And, I32Or, I32Xor, I32Shl, I32ShrS, I32ShrU, I32Rotl, I32Rotr}
use Rattle.mc_cmd.specs.Form.{Text}
use Rattle.cc_line.specs.Key.{key_left, key_right_signed, key_right, key_turn_left, key_turn_right}
use Rattle.cc_line.specs.declared.table.Table.TheVariants as tables
use Rattle.cc_line.specs.Item.{call_item, fill_item, first, Items, items_texts, join, no_more, steps_items}
use Rattle.cc_line.specs.OpenStep.{OpenStep}
use Rattle.cc_line.specs.Step.{Step}
use Rattle.cc_text.specs.Tables.{IsOwn, IsWithin, ItemNamed, ItemsNamed, lines_named, NamedHelper}
use Rattle.cc_text.proofs.NamedItems.{named_both, named_call, named_fill, named_steps, no_helper}
use Rattle.cc_bits.specs.Digit.{and_items, both_items, bytes_steps, found_steps, less_both, ones_steps, or_body, or_items, popcnt_items, split_steps, sum_steps, told_steps, xor_body, xor_items}
use Rattle.cc_bits.specs.Helpers.{beginning, helpers}
use Rattle.cc_bits.specs.Line.{choice_site, lays, of_one, of_two, still}
use Rattle.cc_bits.specs.Operation.{op_items}
use Rattle.cc_bits.specs.Shifting.{count_steps, filled_items, look_number, look_row, rotate_steps, rotl_items, rotr_items, shl_items, shl_steps, shr_s_items, shr_s_steps, shr_u_items, shr_u_steps}

pub helpers_own : IsOwn beginning helpers 100
helpers_own = record { names = refl; few = omega arith }

module _ (all : List NamedHelper) (w : IsWithin helpers all) where
  of_one_named : (a r : ℕ) (xs : Items) (h : List ℕ) → ItemsNamed all xs → ItemsNamed all (of_one a r xs h)
  of_one_named a r xs h k = (no_helper, named_both all xs _ k (no_helper, tt))

  of_two_named : (a b r : ℕ) (xs : Items) (h : List ℕ) → ItemsNamed all xs → ItemsNamed all (of_two a b r xs h)
  of_two_named a b r xs h k = (no_helper, (no_helper, named_both all xs _ k (no_helper, tt)))

  both_named : ItemsNamed all both_items
  both_named =
      named_both all (steps_items told_steps) (first (fill_item (codes "h_cc_bits_bytes") choice_site split_steps) (first (fill_item (codes "h_cc_bits_both") choice_site found_steps) no_more)) (named_steps all told_steps)
      (named_fill all helpers w (codes "h_cc_bits_bytes") choice_site split_steps (λ ns. refl), (named_fill all helpers w (codes "h_cc_bits_both") choice_site found_steps (λ ns. refl), tt))

  less_named : (xs : List Step) → ItemsNamed all (join (steps_items sum_steps) (join both_items (steps_items xs)))
  less_named xs = named_both all (steps_items sum_steps) (join both_items (steps_items xs)) (named_steps all sum_steps) (named_both all both_items (steps_items xs) both_named (named_steps all xs))

  called_named : (f : Text) (xs : Items) → ((ns : Text) → lines_named helpers ns f ≡ Some (items_texts ns xs)) → ItemsNamed all xs → ItemsNamed all (first (call_item f xs) no_more)
  called_named f xs e k = (named_call all helpers w f xs e k, tt)

  filled_named : (f : Text) (ls : List OpenStep) (xs : List Step) → ItemNamed all (fill_item f choice_site ls) → ItemsNamed all (filled_items f ls xs)
  filled_named f ls xs k = named_both all (steps_items count_steps) (first (fill_item f choice_site ls) (steps_items xs)) (named_steps all count_steps) (k, named_steps all xs)

  ones_named : ItemsNamed all popcnt_items
  ones_named =
      named_both all (steps_items bytes_steps) (first (fill_item (codes "h_cc_bits_popcnt") choice_site (still (lays tables.Ones) ∷ ones_steps)) no_more) (named_steps all bytes_steps)
      (named_fill all helpers w (codes "h_cc_bits_popcnt") choice_site (still (lays tables.Ones) ∷ ones_steps) (λ ns. refl), tt)

  pub operation_named : (op : NumOp) (a b r : ℕ) → ItemsNamed all (op_items op a b r)
  operation_named I32Clz a b r = named_steps all _
  operation_named I32Ctz a b r = named_steps all _
  operation_named I32Popcnt a b r = of_one_named a r popcnt_items (codes "#d") ones_named
  operation_named I32Extend8S a b r = named_steps all _
  operation_named I32Extend16S a b r = named_steps all _
  operation_named I32And a b r = of_two_named a b r and_items (codes "#d") (called_named (codes "h_cc_bits_and") both_items (λ ns. refl) both_named)
  operation_named I32Or a b r = of_two_named a b r or_items (codes "#e") (called_named (codes "h_cc_bits_or") or_body (λ ns. refl) (less_named (less_both ∷ [])))
  operation_named I32Xor a b r = of_two_named a b r xor_items (codes "#e") (called_named (codes "h_cc_bits_xor") xor_body (λ ns. refl) (less_named (less_both ∷ less_both ∷ [])))
  operation_named I32Shl a b r = of_two_named a b r shl_items (codes "#a") (filled_named (codes "h_cc_bits_shl") (look_number key_left) shl_steps (named_fill all helpers w (codes "h_cc_bits_shl") choice_site (look_number key_left) (λ ns. refl)))
  operation_named I32ShrS a b r = of_two_named a b r shr_s_items (codes "#a") (filled_named (codes "h_cc_bits_shr_s") (look_number key_right_signed) shr_s_steps (named_fill all helpers w (codes "h_cc_bits_shr_s") choice_site (look_number key_right_signed) (λ ns. refl)))
  operation_named I32ShrU a b r = of_two_named a b r shr_u_items (codes "#a") (filled_named (codes "h_cc_bits_shr_u") (look_number key_right) shr_u_steps (named_fill all helpers w (codes "h_cc_bits_shr_u") choice_site (look_number key_right) (λ ns. refl)))
  operation_named I32Rotl a b r = of_two_named a b r rotl_items (codes "#a") (filled_named (codes "h_cc_bits_rotl") (look_row key_turn_left) rotate_steps (named_fill all helpers w (codes "h_cc_bits_rotl") choice_site (look_row key_turn_left) (λ ns. refl)))
  operation_named I32Rotr a b r = of_two_named a b r rotr_items (codes "#a") (filled_named (codes "h_cc_bits_rotr") (look_row key_turn_right) rotate_steps (named_fill all helpers w (codes "h_cc_bits_rotr") choice_site (look_row key_turn_right) (λ ns. refl)))
  operation_named op a b r = tt
