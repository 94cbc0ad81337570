use Rattle.std.proofs.Common.{◌≡◌, ◌≤◌, ◌+◌, max, drop, length}
use Rattle.wm_ast.specs.Profile.{all_ops}
use Rattle.wm_ast.specs.View.{code_of}
use Rattle.wm_valid.specs.ScopeView.{body_of}
use Rattle.wm_valid.specs.PlaceReading.{code_height}
use Rattle.wm_valid.proofs.height.+height.Given as goal

abbrev pub invariant-code_height-loop-instr : goal.invariant-code_height-loop-instr
invariant-code_height-loop-instr l = record {
  greatest : max l.greatest (code_height (code_of (drop l.instr-index l.code)) (body_of l.scope) l.operands) ≡ code_height (code_of l.code) (body_of l.scope) l.initial.operands;
  room : l.operands + length (all_ops (code_of (drop l.instr-index l.code))) ≤ 262144;
}
