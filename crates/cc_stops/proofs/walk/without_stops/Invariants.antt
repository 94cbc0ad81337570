use Rattle.cc_stops.proofs.Walks.{Walked}
use Rattle.cc_stops.proofs.walk.without_stops.Given as goal

abbrev pub invariant-loop-item : goal.invariant-loop-item
invariant-loop-item l = Walked l.yielded l.calm l.kept.items
