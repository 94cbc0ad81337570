use Rattle.std.specs.BTreeMap.{keys}
use Rattle.io_dev.proofs.Listed.{Gathers}
use Rattle.io_dev.proofs.listing.names_in.Given as goal

abbrev pub invariant-loop-path : goal.invariant-loop-path
invariant-loop-path l = Gathers l.dir l.names l.path-iterator (keys l.files)
