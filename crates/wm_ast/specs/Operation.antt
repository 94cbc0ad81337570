-- What the instructions on numbers and on memory take and give (3.3.1, 3.3.4). The last operand stands first in a
-- list of types.
use Rattle.std.specs.Prelude.{ℕ, List, [], ◌∷◌}
use Rattle.mc_nbt.specs.declared.value.Kind.{Kind}
use Rattle.mc_nbt.specs.declared.value.Kind.TheVariants as kinds
use Rattle.wm_ast.specs.declared.module.ValType.{ValType}
use Rattle.wm_ast.specs.declared.module.ValType.TheVariants.{I32, I64}
use Rattle.wm_ast.specs.declared.operation.NumOp.{NumOp}
use Rattle.wm_ast.specs.declared.operation.LoadOp.{LoadOp}
use Rattle.wm_ast.specs.declared.operation.LoadOp.TheVariants.{I32Load, I64Load, I32Load8S, I32Load8U, I32Load16S}
use Rattle.wm_ast.specs.declared.operation.LoadOp.TheVariants.{I32Load16U, I64Load8S, I64Load8U, I64Load16S, I64Load16U}
use Rattle.wm_ast.specs.declared.operation.LoadOp.TheVariants.{I64Load32S, I64Load32U}
use Rattle.wm_ast.specs.declared.operation.StoreOp.{StoreOp}
use Rattle.wm_ast.specs.declared.operation.StoreOp.TheVariants.{I32Store, I64Store, I32Store8, I32Store16, I64Store8}
use Rattle.wm_ast.specs.declared.operation.StoreOp.TheVariants.{I64Store16, I64Store32}
use Rattle.wm_ast.specs.declared.operator.Operator.{Operator}
use Rattle.wm_ast.specs.declared.operator.Operator.TheVariants.{Test, Unary, Binary, Comparison, Wrap, ExtendS}
use Rattle.wm_ast.specs.declared.operator.Operator.TheVariants.{ExtendU}
use Rattle.wm_ast.specs.Operator.{operator_of}

-- what an instruction takes and gives
pub record Arrow : Type 0 where
  pub takes : List ValType
  pub gives : List ValType

-- one operand, and a result of its type
abbrev pub unary : ValType → Arrow
unary t = record { takes = t ∷ []; gives = t ∷ [] }

-- two operands, and a result of their type
abbrev pub binary : ValType → Arrow
binary t = record { takes = t ∷ t ∷ []; gives = t ∷ [] }

-- one operand, and a truth value
abbrev pub test : ValType → Arrow
test t = record { takes = t ∷ []; gives = I32 ∷ [] }

-- two operands, and a truth value
abbrev pub comparison : ValType → Arrow
comparison t = record { takes = t ∷ t ∷ []; gives = I32 ∷ [] }

-- from the one type to the other
abbrev pub conversion : ValType → ValType → Arrow
conversion from to = record { takes = from ∷ []; gives = to ∷ [] }

-- the value type of a kind
abbrev pub kind_type : Kind → ValType
kind_type kinds.I32 = I32
kind_type kinds.I64 = I64

abbrev pub operator_type : Operator → Arrow
operator_type (Test k) = test (kind_type k)
operator_type (Unary k op) = unary (kind_type k)
operator_type (Binary k op) = binary (kind_type k)
operator_type (Comparison k op) = comparison (kind_type k)
operator_type Wrap = conversion I64 I32
operator_type ExtendS = conversion I32 I64
operator_type ExtendU = conversion I32 I64

-- a number operation (3.3.1), the sign extensions of edition 2.0 (there 3.3.1) included
abbrev pub num_type : NumOp → Arrow
num_type op = operator_type (operator_of op)

-- the type of what a load gives (3.3.4)
abbrev pub load_kind : LoadOp → Kind
load_kind I32Load = kinds.I32
load_kind I64Load = kinds.I64
load_kind I32Load8S = kinds.I32
load_kind I32Load8U = kinds.I32
load_kind I32Load16S = kinds.I32
load_kind I32Load16U = kinds.I32
load_kind I64Load8S = kinds.I64
load_kind I64Load8U = kinds.I64
load_kind I64Load16S = kinds.I64
load_kind I64Load16U = kinds.I64
load_kind I64Load32S = kinds.I64
load_kind I64Load32U = kinds.I64

abbrev pub load_type : LoadOp → ValType
load_type op = kind_type (load_kind op)

-- how many bytes a load reads (3.3.4)
abbrev pub load_width : LoadOp → ℕ
load_width I32Load = 4
load_width I64Load = 8
load_width I32Load8S = 1
load_width I32Load8U = 1
load_width I32Load16S = 2
load_width I32Load16U = 2
load_width I64Load8S = 1
load_width I64Load8U = 1
load_width I64Load16S = 2
load_width I64Load16U = 2
load_width I64Load32S = 4
load_width I64Load32U = 4

-- the type of what a store writes (3.3.4)
abbrev pub store_kind : StoreOp → Kind
store_kind I32Store = kinds.I32
store_kind I64Store = kinds.I64
store_kind I32Store8 = kinds.I32
store_kind I32Store16 = kinds.I32
store_kind I64Store8 = kinds.I64
store_kind I64Store16 = kinds.I64
store_kind I64Store32 = kinds.I64

abbrev pub store_type : StoreOp → ValType
store_type op = kind_type (store_kind op)

-- how many bytes a store writes (3.3.4)
abbrev pub store_width : StoreOp → ℕ
store_width I32Store = 4
store_width I64Store = 8
store_width I32Store8 = 1
store_width I32Store16 = 2
store_width I64Store8 = 1
store_width I64Store16 = 2
store_width I64Store32 = 4
