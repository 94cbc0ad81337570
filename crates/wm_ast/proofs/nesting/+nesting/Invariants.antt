use Rattle.std.proofs.Common.{◌≡◌, ◌≤◌, min, max, drop}
use Rattle.wm_ast.specs.View.{code_of}
use Rattle.wm_ast.specs.Instruction.{code_depth}
use Rattle.wm_ast.proofs.nesting.+nesting.Given as goal

abbrev pub invariant-depth_of_all-loop-instr : goal.invariant-depth_of_all-loop-instr
invariant-depth_of_all-loop-instr l = record {
  fits : l.deepest ≤ 4294967295;
  same : min (max l.deepest (code_depth (code_of (drop l.instr-index l.body)))) 4294967295 ≡ min (code_depth (code_of l.body)) 4294967295;
}
