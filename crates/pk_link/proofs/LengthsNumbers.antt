-- The items of operations on numbers are short, by which crate has them.
use Rattle.std.proofs.Common.{◌≡◌, ℕ, ◌-◌, Bool, true, false, Option, Some, None, refl}
use Rattle.std.specs.Prelude.{if◌then◌else◌, unwrap_or}
use Rattle.wm_ast.specs.declared.operation.NumOp.{NumOp}
use Rattle.wm_ast.specs.Operation.{num_type}
use Rattle.wm_ast.specs.Operator.{operator_of}
use Rattle.cc_text.specs.Short.{items_short}
use Rattle.cc_cut.specs.Law.{widths}
use Rattle.cc_i32.specs.Operation as arithmetic
use Rattle.cc_i32.proofs.Short.{operator_short}
use Rattle.cc_bits.specs.Operation as bits
use Rattle.cc_bits.proofs.Short.{operation_short as bits_short}
use Rattle.cc_bits64.specs.Operation as long_bits
use Rattle.cc_bits64.proofs.Short.{operation_short as long_bits_short}
use Rattle.cc_i64.specs.Operation as pairs
use Rattle.cc_i64.proofs.Short.{operator_short as pair_operator_short}
use Rattle.cc_known.specs.Choice.{chosen_items}
use Rattle.cc_known.proofs.Choices.{chosen_short}
use Rattle.cc_line.specs.Item.{Items}
use Rattle.cc_body.specs.Emit.{has_one_operand, is_of_i32, long_items, num_below, num_by, num_items, short_below}

num_short : (op : NumOp) (a b r : ℕ) → items_short (num_items op a b r) ≡ true
num_short op a b r = go (arithmetic.is_own (operator_of op))
  where
    go : (c : Bool) → items_short (if c then arithmetic.op_items op a b r else bits.op_items op a b r) ≡ true
    go true = operator_short (operator_of op) a b r
    go false = bits_short op a b r

i32_short : (op : NumOp) (h : ℕ) → items_short (short_below op h) ≡ true
i32_short op h = go (has_one_operand op)
  where
    go : (c : Bool) → items_short (if c then num_items op (h - 1) (h - 1) (h - 1) else num_items op (h - 2) (h - 1) (h - 2)) ≡ true
    go true = num_short op (h - 1) (h - 1) (h - 1)
    go false = num_short op (h - 2) (h - 1) (h - 2)

i64_short : (op : NumOp) (a : ℕ) → items_short (long_items op a) ≡ true
i64_short op a = go (pairs.is_own (operator_of op))
  where
    go : (c : Bool) → items_short (if c then pairs.op_items op a else long_bits.op_items op a) ≡ true
    go true = pair_operator_short (operator_of op) a
    go false = long_bits_short op a

below_short : (op : NumOp) (h : ℕ) → items_short (num_below op h) ≡ true
below_short op h = go (is_of_i32 op)
  where
    go : (c : Bool) → items_short (if c then short_below op h else long_items op (h - widths (num_type op).takes)) ≡ true
    go true = i32_short op h
    go false = i64_short op (h - widths (num_type op).takes)

pub by_short : (lower upper : Option ℕ) (op : NumOp) (h : ℕ) → items_short (num_by lower upper op h) ≡ true
by_short lower upper op h = go (chosen_items op lower upper (h - 2) (h - 1) (h - 2)) refl
  where
    go : (o : Option Items) → chosen_items op lower upper (h - 2) (h - 1) (h - 2) ≡ o → items_short (unwrap_or o (num_below op h)) ≡ true
    go None e = below_short op h
    go (Some xs) e = chosen_short op lower upper (h - 2) (h - 1) (h - 2) xs e
