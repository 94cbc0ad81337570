use Rattle.std.proofs.Common.{◌≡◌, ◌++◌, take}
use Rattle.cc_call.specs.View.{acts_view}
use Rattle.cc_pieces.specs.View.{list_view}
use Rattle.cc_pieces.specs.Lists.{acts_list}
use Rattle.cc_pieces.proofs.items.push_acts.Given as goal

abbrev pub invariant-loop-act : goal.invariant-loop-act
invariant-loop-act l = list_view l.items.items ≡ list_view l.initial.items.items ++ acts_list (acts_view (take l.act-index l.acts))
