use Rattle.std.proofs.Common.{◌≡◌, take}
use Rattle.app_report.specs.Costs.{same_group, tally}
use Rattle.app_report.proofs.tally.tally_of.Given as goal

abbrev pub invariant-loop-piece : goal.invariant-loop-piece
invariant-loop-piece l = l.tally ≡ tally (same_group l.group) (take l.piece-index l.pieces)
