-- The instructions that those of the code stand for.
use Rattle.wm_ast.specs.declared.operation.LoadOp.TheVariants.{I64Load32U}
use Rattle.wm_ast.specs.declared.operation.NumOp.TheVariants as ops
use Rattle.wm_ast.specs.declared.operation.StoreOp.TheVariants.{I32Store}
use Rattle.wm_ast.specs.Code.{Op, br_if, call, local_get, local_set, local_tee, load, store, num}
use Rattle.wm_gen.specs.declared.instruction.Simple.{Simple}
use Rattle.wm_gen.specs.declared.instruction.Simple.TheVariants as simple
use Rattle.wm_gen.specs.Workload.{i32, i64}

abbrev pub op_of : Simple → Op
op_of (simple.I32 n) = i32 n
op_of (simple.I64 n) = i64 n
op_of (simple.LocalGet x) = local_get x
op_of (simple.LocalSet x) = local_set x
op_of (simple.LocalTee x) = local_tee x
op_of (simple.BrIf l) = br_if l
op_of (simple.Call f) = call f
op_of (simple.Store offset) = store I32Store 2 offset
op_of (simple.Load offset) = load I64Load32U 2 offset
op_of simple.I32Mul = num ops.I32Mul
op_of simple.I32Sub = num ops.I32Sub
op_of simple.I64Add = num ops.I64Add
op_of simple.I64DivU = num ops.I64DivU
op_of simple.I64RemU = num ops.I64RemU
op_of simple.I64Xor = num ops.I64Xor
op_of simple.I64ExtendI32U = num ops.I64ExtendI32U
