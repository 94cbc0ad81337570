-- Operations call no helper, whatever list their names might be in.
use Rattle.std.proofs.Common.{ℕ, List}
use Rattle.mc_nbt.specs.declared.value.Kind.TheVariants.{I32, I64}
use Rattle.wm_ast.specs.declared.operation.NumOp.{NumOp}
use Rattle.wm_ast.specs.declared.operator.BinaryOp.{BinaryOp}
use Rattle.wm_ast.specs.declared.operator.BinaryOp.TheVariants.{Add, Sub, Mul, DivS, DivU, RemS, RemU, And, Or, Xor, Shl, ShrS, ShrU, Rotl, Rotr}
use Rattle.wm_ast.specs.declared.operator.CompareOp.{CompareOp}
use Rattle.wm_ast.specs.declared.operator.CompareOp.TheVariants.{Eq, Ne, LtS, LtU, GtS, GtU, LeS, LeU, GeS, GeU}
use Rattle.wm_ast.specs.declared.operator.UnaryOp.{UnaryOp}
use Rattle.wm_ast.specs.declared.operator.UnaryOp.TheVariants.{Clz, Ctz, Popcnt, Extend8S, Extend16S, Extend32S}
use Rattle.wm_ast.specs.declared.operator.Operator.{Operator}
use Rattle.wm_ast.specs.declared.operator.Operator.TheVariants.{Binary, Comparison, ExtendS, ExtendU, Test, Unary, Wrap}
use Rattle.wm_ast.specs.Operator.{operator_of}
use Rattle.cc_text.specs.Tables.{ItemsNamed, NamedHelper}
use Rattle.cc_text.proofs.NamedItems.{named_steps, no_helper}
use Rattle.cc_i64.specs.Operation.{binary_items, compare_items, op_items, operator_items, unary_items}

module _ (all : List NamedHelper) where
  unary_named : (op : UnaryOp) (a : ℕ) → ItemsNamed all (unary_items op a)
  unary_named Clz a = tt
  unary_named Ctz a = tt
  unary_named Popcnt a = tt
  unary_named Extend8S a = named_steps all _
  unary_named Extend16S a = named_steps all _
  unary_named Extend32S a = named_steps all _

  binary_named : (op : BinaryOp) (a : ℕ) → ItemsNamed all (binary_items op a)
  binary_named Add a = named_steps all _
  binary_named Sub a = named_steps all _
  binary_named Mul a = tt
  binary_named DivS a = tt
  binary_named DivU a = tt
  binary_named RemS a = tt
  binary_named RemU a = tt
  binary_named And a = tt
  binary_named Or a = tt
  binary_named Xor a = tt
  binary_named Shl a = tt
  binary_named ShrS a = tt
  binary_named ShrU a = tt
  binary_named Rotl a = tt
  binary_named Rotr a = tt

  compare_named : (op : CompareOp) (a : ℕ) → ItemsNamed all (compare_items op a)
  compare_named Eq a = named_steps all _
  compare_named Ne a = named_steps all _
  compare_named LtS a = named_steps all _
  compare_named LtU a = named_steps all _
  compare_named GtS a = named_steps all _
  compare_named GtU a = named_steps all _
  compare_named LeS a = named_steps all _
  compare_named LeU a = named_steps all _
  compare_named GeS a = named_steps all _
  compare_named GeU a = named_steps all _

  operator_named : (q : Operator) (a : ℕ) → ItemsNamed all (operator_items q a)
  operator_named (Test I32) a = tt
  operator_named (Test I64) a = named_steps all _
  operator_named (Unary I32 op) a = tt
  operator_named (Unary I64 op) a = unary_named op a
  operator_named (Binary I32 op) a = tt
  operator_named (Binary I64 op) a = binary_named op a
  operator_named (Comparison I32 op) a = tt
  operator_named (Comparison I64 op) a = compare_named op a
  operator_named Wrap a = tt
  operator_named ExtendS a = named_steps all _
  operator_named ExtendU a = (no_helper, tt)

  pub operation_named : (op : NumOp) (a : ℕ) → ItemsNamed all (op_items op a)
  operation_named op a = operator_named (operator_of op) a
