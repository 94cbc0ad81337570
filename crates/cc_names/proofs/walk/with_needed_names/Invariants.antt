use Rattle.cc_names.proofs.Walks.{Walked}
use Rattle.cc_names.proofs.walk.with_needed_names.Given as goal

abbrev pub invariant-loop-item : goal.invariant-loop-item
invariant-loop-item l = Walked l.yielded l.needed l.exit l.kept.items
