use Rattle.std.proofs.Common.{◌≡◌, ◌++◌, map, take}
use Rattle.wm_ast.specs.View.{code_from}
use Rattle.wm_gen.specs.Shortest.{code_bytes}
use Rattle.wm_gen.specs.steps.Instruction.{op_of}
use Rattle.wm_gen.proofs.instruction.push_all.Given as goal

abbrev pub invariant-loop-instruction : goal.invariant-loop-instruction
invariant-loop-instruction l =
    l.bytes.items ≡ l.initial.bytes.items ++ code_bytes (code_from (map op_of (take l.instruction-index l.instructions)))
