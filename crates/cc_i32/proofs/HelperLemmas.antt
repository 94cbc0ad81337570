-- The helpers that operations call have names of the crate's list.
use Rattle.std.proofs.Common.{refl, ℕ, List, arith}
use Rattle.std.specs.Prelude.{codes}
use Rattle.mc_nbt.specs.declared.value.Kind.TheVariants.{I32, I64}
use Rattle.wm_ast.specs.declared.operation.NumOp.{NumOp}
use Rattle.wm_ast.specs.declared.operator.BinaryOp.{BinaryOp}
use Rattle.wm_ast.specs.declared.operator.BinaryOp.TheVariants.{Add, Sub, Mul, DivS, DivU, RemS, RemU, And, Or, Xor, Shl, ShrS, ShrU, Rotl, Rotr}
use Rattle.wm_ast.specs.declared.operator.CompareOp.{CompareOp}
use Rattle.wm_ast.specs.declared.operator.CompareOp.TheVariants.{Eq, Ne, LtS, LtU, GtS, GtU, LeS, LeU, GeS, GeU}
use Rattle.wm_ast.specs.declared.operator.Operator.{Operator}
use Rattle.wm_ast.specs.declared.operator.Operator.TheVariants.{Binary, Comparison, ExtendS, ExtendU, Test, Unary, Wrap}
use Rattle.wm_ast.specs.Operator.{operator_of}
use Rattle.cc_line.specs.Item.{call_when, first, Items, no_more, steps_items}
use Rattle.cc_text.specs.Tables.{IsOwn, IsWithin, ItemsNamed, NamedHelper}
use Rattle.cc_text.proofs.NamedItems.{named_both, named_call_when, named_steps, no_helper}
use Rattle.cc_i32.specs.Division.{high_by_low, high_quotient, high_rest, on_scratch, plain_quotient, plain_rest, quotient_s, quotient_u, rest_s, rest_u, signed_quotient, signed_rest}
use Rattle.cc_i32.specs.Helpers.{beginning, helpers}
use Rattle.cc_i32.specs.Operation.{binary_items, compare_items, op_items, operator_items}

pub helpers_own : IsOwn beginning helpers 100
helpers_own = record { names = refl; few = omega arith }

module _ (all : List NamedHelper) (w : IsWithin helpers all) where
  on_scratch_named : (a b r : ℕ) (h : List ℕ) (xs : Items) → ItemsNamed all xs → ItemsNamed all (on_scratch a b r h xs)
  on_scratch_named a b r h xs k = (no_helper, (no_helper, named_both all xs _ k (no_helper, tt)))

  quotient_named : ItemsNamed all quotient_u
  quotient_named = (
    no_helper,
    (
      no_helper,
      named_both all (steps_items plain_quotient) (first (call_when high_by_low (codes "h_cc_i32_div_high") (steps_items high_quotient)) no_more) (named_steps all plain_quotient)
          (named_call_when all helpers w high_by_low (codes "h_cc_i32_div_high") (steps_items high_quotient) (λ ns. refl) (named_steps all high_quotient), tt),
    ),
  )

  rest_named : ItemsNamed all rest_u
  rest_named = (
    no_helper,
    (
      no_helper,
      named_both all (steps_items plain_rest) (first (call_when high_by_low (codes "h_cc_i32_rem_high") (steps_items high_rest)) no_more) (named_steps all plain_rest)
          (named_call_when all helpers w high_by_low (codes "h_cc_i32_rem_high") (steps_items high_rest) (λ ns. refl) (named_steps all high_rest), tt),
    ),
  )

  binary_named : (op : BinaryOp) (a b r : ℕ) → ItemsNamed all (binary_items op a b r)
  binary_named Add a b r = named_steps all _
  binary_named Sub a b r = named_steps all _
  binary_named Mul a b r = named_steps all _
  binary_named DivS a b r = on_scratch_named a b r (codes "#c") quotient_s (no_helper, (no_helper, (no_helper, (no_helper, named_steps all signed_quotient))))
  binary_named DivU a b r = on_scratch_named a b r (codes "#d") quotient_u quotient_named
  binary_named RemS a b r = on_scratch_named a b r (codes "#c") rest_s (no_helper, (no_helper, named_steps all signed_rest))
  binary_named RemU a b r = on_scratch_named a b r (codes "#d") rest_u rest_named
  binary_named And a b r = tt
  binary_named Or a b r = tt
  binary_named Xor a b r = tt
  binary_named Shl a b r = tt
  binary_named ShrS a b r = tt
  binary_named ShrU a b r = tt
  binary_named Rotl a b r = tt
  binary_named Rotr a b r = tt

  compare_named : (op : CompareOp) (a b r : ℕ) → ItemsNamed all (compare_items op a b r)
  compare_named Eq a b r = named_steps all _
  compare_named Ne a b r = named_steps all _
  compare_named LtS a b r = named_steps all _
  compare_named LtU a b r = named_steps all _
  compare_named GtS a b r = named_steps all _
  compare_named GtU a b r = named_steps all _
  compare_named LeS a b r = named_steps all _
  compare_named LeU a b r = named_steps all _
  compare_named GeS a b r = named_steps all _
  compare_named GeU a b r = named_steps all _

  operator_named : (q : Operator) (a b r : ℕ) → ItemsNamed all (operator_items q a b r)
  operator_named (Test I32) a b r = named_steps all _
  operator_named (Test I64) a b r = tt
  operator_named (Unary k op) a b r = tt
  operator_named (Binary I32 op) a b r = binary_named op a b r
  operator_named (Binary I64 op) a b r = tt
  operator_named (Comparison I32 op) a b r = compare_named op a b r
  operator_named (Comparison I64 op) a b r = tt
  operator_named Wrap a b r = tt
  operator_named ExtendS a b r = tt
  operator_named ExtendU a b r = tt

  pub operation_named : (op : NumOp) (a b r : ℕ) → ItemsNamed all (op_items op a b r)
  operation_named op a b r = operator_named (operator_of op) a b r
