-- The plain data that an instruction stands for. The view forgets nothing.
use Rattle.std.specs.Prelude.{List, [], ◌∷◌, map}
use Rattle.wm_ast.specs.declared.instruction.Instr.{Instr, fold-Instr}
use Rattle.wm_ast.specs.declared.instruction.Instr.TheOpen.{Instr-F}
use Rattle.wm_ast.specs.declared.instruction.Instr.TheVariants as i
use Rattle.wm_ast.specs.Code.{Op, unreachable, nop, block, loop, if_else, br, br_if, br_table, return, call}
use Rattle.wm_ast.specs.Code.{call_indirect, drop_one, select, local_get, local_set, local_tee, global_get, global_set}
use Rattle.wm_ast.specs.Code.{load, store, memory_size, memory_grow, memory_copy, memory_fill, const, num, float, mul64}
use Rattle.wm_ast.specs.Code.{Code, nil, cons}

-- a list of plain data as a sequence
abbrev pub code_from : List Op → Code
code_from [] = nil
code_from (i ∷ is) = cons i (code_from is)

-- one level, with each instruction inside already seen
abbrev pub op_from : Instr-F Op → Op
op_from Instr-F.Unreachable = unreachable
op_from Instr-F.Nop = nop
op_from (Instr-F.Block ty body) = block ty (code_from body)
op_from (Instr-F.Loop ty body) = loop ty (code_from body)
op_from (Instr-F.If ty first second) = if_else ty (code_from first) (code_from second)
op_from (Instr-F.Br l) = br l
op_from (Instr-F.BrIf l) = br_if l
op_from (Instr-F.BrTable ls l) = br_table ls l
op_from Instr-F.Return = return
op_from (Instr-F.Call f) = call f
op_from (Instr-F.CallIndirect t) = call_indirect t
op_from Instr-F.DropOne = drop_one
op_from Instr-F.Select = select
op_from (Instr-F.LocalGet x) = local_get x
op_from (Instr-F.LocalSet x) = local_set x
op_from (Instr-F.LocalTee x) = local_tee x
op_from (Instr-F.GlobalGet x) = global_get x
op_from (Instr-F.GlobalSet x) = global_set x
op_from (Instr-F.Load op align offset) = load op align offset
op_from (Instr-F.Store op align offset) = store op align offset
op_from Instr-F.MemorySize = memory_size
op_from Instr-F.MemoryGrow = memory_grow
op_from Instr-F.MemoryCopy = memory_copy
op_from Instr-F.MemoryFill = memory_fill
op_from (Instr-F.Const v) = const v
op_from (Instr-F.Num op) = num op
op_from (Instr-F.Float opcode) = float opcode
op_from Instr-F.Mul64 = mul64

-- an instruction as plain data
abbrev pub op_of : Instr → Op
op_of = fold-Instr Op op_from

-- instructions as plain data
abbrev pub code_of : List Instr → Code
code_of is = code_from (map op_of is)

abbrev mutual
  -- the instruction that plain data stands for
  pub instr_of : Op → Instr
  instr_of (block ty body) = i.Block ty (instrs_of body)
  instr_of (loop ty body) = i.Loop ty (instrs_of body)
  instr_of (if_else ty first second) = i.If ty (instrs_of first) (instrs_of second)
  instr_of unreachable = i.Unreachable
  instr_of nop = i.Nop
  instr_of (br l) = i.Br l
  instr_of (br_if l) = i.BrIf l
  instr_of (br_table ls l) = i.BrTable ls l
  instr_of return = i.Return
  instr_of (call f) = i.Call f
  instr_of (call_indirect t) = i.CallIndirect t
  instr_of drop_one = i.DropOne
  instr_of select = i.Select
  instr_of (local_get x) = i.LocalGet x
  instr_of (local_set x) = i.LocalSet x
  instr_of (local_tee x) = i.LocalTee x
  instr_of (global_get x) = i.GlobalGet x
  instr_of (global_set x) = i.GlobalSet x
  instr_of (load op align offset) = i.Load op align offset
  instr_of (store op align offset) = i.Store op align offset
  instr_of memory_size = i.MemorySize
  instr_of memory_grow = i.MemoryGrow
  instr_of memory_copy = i.MemoryCopy
  instr_of memory_fill = i.MemoryFill
  instr_of (const v) = i.Const v
  instr_of (num op) = i.Num op
  instr_of (float opcode) = i.Float opcode
  instr_of mul64 = i.Mul64

  -- the instructions that plain data stands for
  pub instrs_of : Code → List Instr
  instrs_of nil = []
  instrs_of (cons o os) = instr_of o ∷ instrs_of os
