use Rattle.std.proofs.Common.{ap}
use Rattle.cc_line.specs.BlockView.{functions_view}
use Rattle.cc_sched.proofs.EmissionLemmas.{chains_added}
use Rattle.cc_sched.proofs.emission.chains.Goals as goal

pub returns : goal.returns
returns c =
    chains_added _ _ _ _ _ _ c.args.ns.now c.args.piece _ _ _ _ _ (ap functions_view c.new-functions.ensures)
    c.in_ok-push_named.ensures c.in_ok-push_named-2.ensures c.in_ok-push_named-3.ensures c.in_ok-push_named-4.ensures c.in_ok-push_named-5.ensures
    c.in_ok-load_lines.ensures c.in_ok-tick_lines.ensures c.in_ok-go_lines.ensures c.in_ok-group_lines.ensures c.in_ok-next_lines.ensures
