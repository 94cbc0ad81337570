use Rattle.std.proofs.Common.{◌≡◌, ◌≤◌, ◌+◌, min, length, drop}
use Rattle.wm_ast.specs.View.{code_of}
use Rattle.wm_ast.specs.Profile.{all_ops}
use Rattle.wm_profile.proofs.instructions.+sizes.Given as goal

abbrev pub invariant-size-loop-instr : goal.invariant-size-loop-instr
invariant-size-loop-instr l = record {
  fits : l.total ≤ 18446744073709551615;
  same : min (l.total + length (all_ops (code_of (drop l.instr-index l.body)))) 18446744073709551615 ≡ min (length (all_ops (code_of l.body))) 18446744073709551615;
}
