use Rattle.cc_line.specs.View.{steps_view}
use Rattle.cc_bulk.proofs.GrowCode.{appends_pushed}
use Rattle.cc_bulk.proofs.growing.push_appends.Goals as goal

pub loop-pages-preserved : goal.loop-pages-preserved
loop-pages-preserved c =
    appends_pushed (steps_view c.args.steps.now.items) c.loop-pages.steps.items c.push.new.self.items c.append_where.result c.loop-pages.pages c.loop-pages.invariant c.in_ok-push.ensures.items c.append_where.ensures
