use Rattle.std.proofs.Common.{◌≡◌, ◌++◌, drop}
use Rattle.wm_ast.specs.View.{code_of}
use Rattle.wm_view.specs.Seen.{constants}
use Rattle.cc_spots.proofs.place.constants.Given as goal

abbrev pub invariant-loop-instr : goal.invariant-loop-instr
invariant-loop-instr l = l.values.items ++ constants (code_of (drop l.instr-index l.code)) ≡ constants (code_of l.code)
