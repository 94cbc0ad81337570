-- The helpers that operations call have names of the crate's list, or of that of `cc_bits`.
use Rattle.std.proofs.Common.{refl, ℕ, suc, List, ◌++◌, arith}
use Rattle.std.specs.Prelude.{codes}
use Rattle.wm_ast.specs.declared.operation.NumOp.{NumOp}
use Rattle.wm_ast.specs.declared.operation.NumOp.TheVariants.{I32And, I32Or, I32Xor, I32Clz, I32Ctz, I32Popcnt}
use Rattle.wm_ast.specs.declared.operation.NumOp.TheVariants.{I64And, I64Or, I64Xor, I64Clz, I64Ctz, I64Popcnt, I64Shl, I64ShrS, I64ShrU, I64Rotl, I64Rotr}
use Rattle.mc_cmd.specs.Form.{Text}
use Rattle.cc_line.specs.Key.{key_turn_left, key_turn_right}
use Rattle.cc_line.specs.Item.{fill_item, Items, join, steps_items}
use Rattle.cc_line.specs.Step.{Step}
use Rattle.cc_text.specs.Tables.{IsOwn, IsWithin, ItemNamed, ItemsNamed, NamedHelper}
use Rattle.cc_text.proofs.NamedItems.{named_both, named_fill, named_steps, no_helper}
use Rattle.cc_bits.specs.Helpers as words
use Rattle.cc_bits.specs.Line.{choice_site}
use Rattle.cc_bits.specs.Operation as bits
use Rattle.cc_bits.specs.Shifting.{look_row}
use Rattle.cc_bits.proofs.HelperLemmas as word_helpers
use Rattle.cc_bits64.specs.Halves.{choose_items, halves_items, popcnt_items, small_result, sum_items, sum_steps, whole_half, zeros_items}
use Rattle.cc_bits64.specs.Helpers.{beginning, helpers}
use Rattle.cc_bits64.specs.Operation.{op_items}
use Rattle.cc_bits64.specs.Shifting.{both_kept, by_words, looked_items, negate_count, shift_items, shift_left, shift_right, shift_right_signed, turn_left, word_left, word_right, word_right_signed, word_turned}

pub helpers_own : IsOwn beginning helpers 100
helpers_own = record { names = refl; few = omega arith }

module _ (all : List NamedHelper) (v : IsWithin words.helpers all) (w : IsWithin helpers all) where
  word_named : (op : NumOp) (a b r : ℕ) → ItemsNamed all (bits.op_items op a b r)
  word_named op a b r = word_helpers.operation_named all v op a b r

  halves_named : (op : NumOp) (a : ℕ) → ItemsNamed all (halves_items op a)
  halves_named op a = named_both all (bits.op_items op a (suc (suc a)) a) (bits.op_items op (suc a) (suc (suc (suc a))) (suc a)) (word_named op a (suc (suc a)) a) (word_named op (suc a) (suc (suc (suc a))) (suc a))

  sum_named : (a : ℕ) (xs : List Step) → ItemsNamed all (sum_items a xs)
  sum_named a xs = (no_helper, (no_helper, named_both all (steps_items xs) (small_result a (codes "#a")) (named_steps all xs) (no_helper, (no_helper, tt))))

  ones_named : (a : ℕ) → ItemsNamed all (popcnt_items a)
  ones_named a =
      let high : Items = bits.op_items I32Popcnt (suc a) (suc a) (suc a) in
      named_both all (bits.op_items I32Popcnt a a a) (join high (sum_items a sum_steps)) (word_named I32Popcnt a a a)
      (named_both all high (sum_items a sum_steps) (word_named I32Popcnt (suc a) (suc a) (suc a)) (sum_named a sum_steps))

  zeros_named : (op : NumOp) (a p q : ℕ) → ItemsNamed all (zeros_items op a p q)
  zeros_named op a p q =
      named_both all (choose_items a p q) (join (bits.op_items op a a a) (sum_items a whole_half)) (no_helper, (no_helper, (no_helper, (no_helper, (no_helper, tt)))))
      (named_both all (bits.op_items op a a a) (sum_items a whole_half) (word_named op a a a) (sum_named a whole_half))

  left_named : ItemNamed all (fill_item (codes "h_cc_bits64_left") choice_site (look_row key_turn_left))
  left_named = named_fill all helpers w (codes "h_cc_bits64_left") choice_site (look_row key_turn_left) (λ ns. refl)

  right_named : ItemNamed all (fill_item (codes "h_cc_bits64_right") choice_site (look_row key_turn_right))
  right_named = named_fill all helpers w (codes "h_cc_bits64_right") choice_site (look_row key_turn_right) (λ ns. refl)

  shifted_named : (f t : Text) (before after : List Step) (a : ℕ) → ItemNamed all (fill_item f choice_site (look_row t)) → ItemsNamed all (shift_items f t before after a)
  shifted_named f t before after a k =
      let looked : Items = looked_items f t after in (
        no_helper,
        (
          no_helper,
          (
            no_helper,
            named_both all (steps_items before) (join looked (both_kept a)) (named_steps all before)
                (named_both all looked (both_kept a) (no_helper, (no_helper, (k, named_steps all after))) (no_helper, (no_helper, tt))),
          ),
        ),
      )

  pub operation_named : (op : NumOp) (a : ℕ) → ItemsNamed all (op_items op a)
  operation_named I64And a = halves_named I32And a
  operation_named I64Or a = halves_named I32Or a
  operation_named I64Xor a = halves_named I32Xor a
  operation_named I64Clz a = zeros_named I32Clz a (suc a) a
  operation_named I64Ctz a = zeros_named I32Ctz a a (suc a)
  operation_named I64Popcnt a = ones_named a
  operation_named I64Shl a = shifted_named (codes "h_cc_bits64_left") key_turn_left (by_words word_left) shift_left a left_named
  operation_named I64ShrS a = shifted_named (codes "h_cc_bits64_right") key_turn_right (by_words word_right_signed) shift_right_signed a right_named
  operation_named I64ShrU a = shifted_named (codes "h_cc_bits64_right") key_turn_right (by_words word_right) shift_right a right_named
  operation_named I64Rotl a = shifted_named (codes "h_cc_bits64_left") key_turn_left (by_words word_turned) turn_left a left_named
  operation_named I64Rotr a = shifted_named (codes "h_cc_bits64_left") key_turn_left (negate_count ++ by_words word_turned) turn_left a left_named
  operation_named _ a = tt
