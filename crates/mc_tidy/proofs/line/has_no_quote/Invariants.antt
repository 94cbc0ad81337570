use Rattle.std.proofs.Common.{◌≡◌, drop}
use Rattle.mc_cmd.specs.Form.{lacks}
use Rattle.mc_tidy.proofs.line.has_no_quote.Given as goal

abbrev pub invariant-loop-b : goal.invariant-loop-b
invariant-loop-b l = lacks 34 l.text ≡ lacks 34 (drop l.b-index l.text)
