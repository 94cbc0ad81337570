use Rattle.std.proofs.Common.{◌≡◌}
use Rattle.cc_line.specs.Item.{no_more}
use Rattle.cc_line.specs.View.{items_view}
use Rattle.cc_div64.specs.Division.{turn_calls}
use Rattle.cc_div64.proofs.turn.turns.Given as goal

abbrev pub invariant-loop-run : goal.invariant-loop-run
invariant-loop-run l = items_view l.items.items ≡ turn_calls l.run no_more
