use Rattle.std.proofs.Common.{◌≡◌}
use Rattle.std.specs.Prelude.{map}
use Rattle.cc_line.specs.BlockView.{block_items}
use Rattle.cc_tails.specs.Tails.{most_cuts, running_on}
use Rattle.cc_tails.proofs.running.tailed.Given as goal

abbrev pub invariant-loop-left : goal.invariant-loop-left
invariant-loop-left l = running_on l.func (map block_items l.cuts) l.left l.at (block_items l.block) ≡ running_on l.func (map block_items l.cuts) most_cuts 0 (block_items l.initial.block)

abbrev pub decreases-loop-left : goal.decreases-loop-left
decreases-loop-left l = l.left
