use Rattle.std.proofs.Common.{◌≡◌, drop}
use Rattle.mc_cmd.specs.Form.{lacks}
use Rattle.mc_cmd.proofs.pattern.has_no_space.Given as goal

abbrev pub invariant-loop-b : goal.invariant-loop-b
invariant-loop-b l = lacks 32 l.text ≡ lacks 32 (drop l.b-index l.text)
