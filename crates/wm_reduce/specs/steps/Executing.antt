-- What the code makes of an instruction that has no body and goes to no other place.
use Rattle.std.specs.Prelude.{◌≡◌, List, Bool, true, false}
use Rattle.mc_nbt.specs.declared.value.Kind.{Kind}
use Rattle.mc_nbt.specs.declared.value.Kind.TheVariants as kinds
use Rattle.wm_ast.specs.declared.operator.Operator.{Operator}
use Rattle.wm_ast.specs.declared.operator.Operator.TheVariants.{Test, Unary, Binary, Comparison}
use Rattle.wm_ast.specs.declared.operator.Operator.TheVariants.{Wrap, ExtendS, ExtendU}
use Rattle.mc_nbt.specs.declared.value.Value.{Value}
use Rattle.wm_ast.specs.Simple.{done, repeats, fault, unfit}
use Rattle.wm_ast.specs.Simple as reduction
use Rattle.wm_ast.specs.Store.{Store}
use Rattle.wm_reduce.specs.declared.simple.Executed.{Executed}
use Rattle.wm_reduce.specs.declared.simple.Executed.TheVariants.{Done, Again, Fault, Unfit}

-- the store and the locals before it, what it came to, the store, the locals and the operands after it
abbrev pub Executes : Store → List Value → Executed → Store → List Value → List Value → reduction.Executed → Type 0
Executes s own Done s' own' vs x = x ≡ done s' own' vs
Executes s own Again s' own' vs x = (x ≡ repeats s' vs) × (own' ≡ own)
Executes s own (Fault k) s' own' vs x = (x ≡ fault k) × (s' ≡ s)
Executes s own Unfit s' own' vs x = x ≡ unfit

-- the kind of an operator's operands
abbrev pub operand_kind : Operator → Kind
operand_kind (Test k) = k
operand_kind (Unary k op) = k
operand_kind (Binary k op) = k
operand_kind (Comparison k op) = k
operand_kind Wrap = kinds.I64
operand_kind ExtendS = kinds.I32
operand_kind ExtendU = kinds.I32

-- it takes two operands
abbrev pub is_double : Operator → Bool
is_double (Binary k op) = true
is_double (Comparison k op) = true
is_double _ = false
