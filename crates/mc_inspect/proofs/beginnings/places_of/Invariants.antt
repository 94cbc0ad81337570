use Rattle.std.proofs.Common.{◌≡◌, ◌+◌, drop, length}
use Rattle.cc_simulate.specs.Frame.{local_ints}
use Rattle.mc_inspect.proofs.beginnings.places_of.Given as goal

abbrev pub invariant-loop-value : goal.invariant-loop-value
invariant-loop-value l = l.count + length (local_ints (drop l.value-index l.values)) ≡ length (local_ints l.values)
