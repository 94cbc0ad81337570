use Rattle.mc_nbt.specs.View.{view}
use Rattle.cc_line.proofs.TableLemmas.{values_pushed}
use Rattle.cc_line.proofs.table.rows.Goals as goal

pub loop-index-preserved : goal.loop-index-preserved
loop-index-preserved c = values_pushed view _ _ _ _ _ c.loop-index.invariant c.in_ok-push.ensures.items c.in_ok-row.ensures
