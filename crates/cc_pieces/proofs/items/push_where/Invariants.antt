use Rattle.std.proofs.Common.{◌≡◌, ◌++◌, take, map}
use Rattle.cc_line.specs.Step.{when}
use Rattle.cc_line.specs.View.{conds_view}
use Rattle.cc_call.specs.View.{acts_view}
use Rattle.cc_pieces.specs.View.{list_view}
use Rattle.cc_pieces.specs.Lists.{steps_list}
use Rattle.cc_pieces.proofs.items.push_where.Given as goal

abbrev pub invariant-loop-act : goal.invariant-loop-act
invariant-loop-act l =
    list_view l.items.items ≡ list_view l.initial.items.items ++ steps_list (map (when (conds_view l.conds)) (acts_view (take l.act-index l.acts)))
