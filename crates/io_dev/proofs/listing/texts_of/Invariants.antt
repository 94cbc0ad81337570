use Rattle.std.proofs.Common.{◌≡◌, ◌++◌}
use Rattle.io_dev.proofs.listing.texts_of.Given as goal

abbrev pub invariant-loop-name : goal.invariant-loop-name
invariant-loop-name l = l.texts ++ l.name-iterator ≡ l.initial.name-iterator
