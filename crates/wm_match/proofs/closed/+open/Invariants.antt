use Rattle.std.proofs.Common.{◌≡◌, drop}
use Rattle.wm_ast.specs.View.{code_of}
use Rattle.wm_match.specs.Closed.{is_open_code}
use Rattle.wm_match.proofs.closed.+open.Given as goal

abbrev pub invariant-is_open-loop-instr : goal.invariant-is_open-loop-instr
invariant-is_open-loop-instr l = is_open_code l.s (code_of (drop l.instr-index l.body)) ≡ is_open_code l.s (code_of l.body)
