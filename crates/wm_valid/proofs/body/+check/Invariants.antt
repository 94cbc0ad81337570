use Rattle.std.proofs.Common.{◌≡◌, drop}
use Rattle.wm_ast.specs.View.{code_of}
use Rattle.wm_valid.specs.InRange.{CodeInRange}
use Rattle.wm_valid.specs.steps.Checking.{check_code}
use Rattle.wm_valid.specs.steps.Found.{shape, labels_of, context}
use Rattle.wm_valid.proofs.body.+check.Given as goal

abbrev pub invariant-check_code-loop-instr : goal.invariant-check_code-loop-instr
invariant-check_code-loop-instr l = record {
  same : l.labels.items ≡ l.initial.labels.items;
  exact :
      check_code (code_of (drop l.instr-index l.code)) (context l.scope (labels_of l.initial.labels.items)) (shape l.operands)
      ≡ check_code (code_of l.code) (context l.scope (labels_of l.initial.labels.items)) (shape l.initial.operands);
  range : CodeInRange (code_of (drop l.instr-index l.code)) → CodeInRange (code_of l.code);
}
