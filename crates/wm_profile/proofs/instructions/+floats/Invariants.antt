use Rattle.std.proofs.Common.{◌≡◌, drop}
use Rattle.wm_ast.specs.View.{code_of}
use Rattle.wm_ast.specs.Profile.{has_float_code}
use Rattle.wm_profile.proofs.instructions.+floats.Given as goal

abbrev pub invariant-has_float-loop-instr : goal.invariant-has_float-loop-instr
invariant-has_float-loop-instr l = has_float_code (code_of (drop l.instr-index l.body)) ≡ has_float_code (code_of l.body)
