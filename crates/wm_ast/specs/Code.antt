-- Instructions as plain data. A body is a list of its own, so that definitions go down into it by plain recursion.
use Rattle.std.specs.Prelude.{ℕ, List, Option, Some, None}
use Rattle.mc_nbt.specs.declared.value.Value.{Value}
use Rattle.wm_ast.specs.declared.module.ValType.{ValType}
use Rattle.wm_ast.specs.declared.operation.NumOp.{NumOp}
use Rattle.wm_ast.specs.declared.operation.LoadOp.{LoadOp}
use Rattle.wm_ast.specs.declared.operation.StoreOp.{StoreOp}

mutual
  -- an instruction
  pub data Op : Type 0 where
    unreachable nop : Op
    block loop : Option ValType → Code → Op
    -- `if`, with its two arms
    if_else : Option ValType → Code → Code → Op
    br br_if : ℕ → Op
    -- the labels and the default label
    br_table : List ℕ → ℕ → Op
    return : Op
    call call_indirect : ℕ → Op
    drop_one select : Op
    local_get local_set local_tee global_get global_set : ℕ → Op
    -- the alignment, as an exponent of 2, and the offset
    load : LoadOp → ℕ → ℕ → Op
    store : StoreOp → ℕ → ℕ → Op
    memory_size memory_grow memory_copy memory_fill : Op
    const : Value → Op
    num : NumOp → Op
    -- an instruction on floats, by its opcode
    float : ℕ → Op
    -- `i64.mul`
    mul64 : Op

  -- a sequence of instructions
  pub data Code : Type 0 where
    nil : Code
    cons : Op → Code → Code

-- the value of a constant
abbrev pub constant_of : Op → Option Value
constant_of (const v) = Some v
constant_of _ = None
