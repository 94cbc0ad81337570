use Rattle.cc_values.proofs.Reading.{IsRead}
use Rattle.cc_values.proofs.row.values_of.Given as goal

abbrev pub invariant-loop-kind : goal.invariant-loop-kind
invariant-loop-kind l = IsRead l.kinds l.ints l.kind-index l.values l.rest
