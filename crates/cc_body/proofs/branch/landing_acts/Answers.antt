use Rattle.std.proofs.Common.{ap, reverse}
use Rattle.wm_place.specs.Stop.{level_told, visit_told}
use Rattle.cc_call.specs.View.{acts_view}
use Rattle.cc_body.specs.steps.PieceBuilder.{ground}
use Rattle.cc_body.proofs.BranchLemmas.{landing_made}
use Rattle.cc_body.proofs.branch.landing_acts.Goals as goal

pub returns : goal.returns
returns c =
    landing_made (ground c.args.body.now) (visit_told c.args.stop) (reverse c.args.kinds.now) (level_told c.args.level.now)
    _ _ _ _ _ _ _ _ _ _ c.arity.ensures c.in_ok-count.ensures c.in_ok-top.ensures.turned c.saturating_sub.ensures c.in_ok-to.ensures c.block_path-path.ensures
    c.in_ok-found.ensures (ap acts_view c.new-acts.ensures.items) c.in_ok-push_carry.ensures c.in_ok-push_goto.ensures
