use Rattle.std.proofs.Common.{◌≡◌, ◌+◌, drop}
use Rattle.wm_join.specs.Numbering.{total}
use Rattle.wm_join.proofs.placing.total.Given as goal

abbrev pub invariant-loop-count : goal.invariant-loop-count
invariant-loop-count l = l.sum + total (drop l.count-index l.counts) ≡ total l.counts
