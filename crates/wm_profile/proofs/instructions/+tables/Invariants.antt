use Rattle.std.proofs.Common.{◌≡◌, find, nat_lt, drop}
use Rattle.wm_ast.specs.View.{code_of}
use Rattle.wm_ast.specs.declared.limit.TheConstants.{MAX_LABELS}
use Rattle.wm_ast.specs.Profile.{code_labels}
use Rattle.wm_profile.proofs.instructions.+tables.Given as goal

abbrev pub invariant-too_many_labels-loop-instr : goal.invariant-too_many_labels-loop-instr
invariant-too_many_labels-loop-instr l = find (nat_lt MAX_LABELS) (code_labels (code_of (drop l.instr-index l.body))) ≡ find (nat_lt MAX_LABELS) (code_labels (code_of l.body))
