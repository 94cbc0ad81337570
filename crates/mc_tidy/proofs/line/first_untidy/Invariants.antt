use Rattle.std.proofs.Common.{take}
use Rattle.mc_cmd.specs.Tidy.{Tidy}
use Rattle.mc_tidy.proofs.line.first_untidy.Given as goal

abbrev pub invariant-loop-at : goal.invariant-loop-at
invariant-loop-at l = Tidy l.names.ns (take l.at l.lines)
