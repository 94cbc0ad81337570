use Rattle.std.proofs.Common.{◌≡◌, drop}
use Rattle.std.specs.Prelude.{reverse}
use Rattle.wm_ast.specs.View.{code_of}
use Rattle.wm_valid.specs.ScopeView.{body_of}
use Rattle.wm_valid.specs.PlaceReading.{run}
use Rattle.wm_valid.proofs.place.run.Given as goal

abbrev pub invariant-loop-instr : goal.invariant-loop-instr
invariant-loop-instr l = run (code_of (drop l.instr-index l.code)) (body_of l.scope) (reverse l.operands.items) ≡ run (code_of l.code) (body_of l.scope) (reverse l.initial.operands.items)
