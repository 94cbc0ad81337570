use Rattle.std.proofs.Common.{◌≡◌, take, true}
use Rattle.app_report.specs.Costs.{tally}
use Rattle.app_report.proofs.tally.total.Given as goal

abbrev pub invariant-loop-piece : goal.invariant-loop-piece
invariant-loop-piece l = l.tally ≡ tally (λ g. true) (take l.piece-index l.pieces)
