use Rattle.std.proofs.Common.{rules}
use Rattle.cc_line.proofs.TableLemmas.{values_put}
use Rattle.cc_line.proofs.table.row.Goals as goal

pub loop-column-preserved : goal.loop-column-preserved
loop-column-preserved c = values_put _ _ _ _ _ c.loop-column.invariant c.in_ok-push.ensures.items (search rules)
