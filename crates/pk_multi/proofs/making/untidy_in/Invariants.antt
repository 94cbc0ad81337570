use Rattle.std.proofs.Common.{◌≡◌, true}
use Rattle.pk_multi.specs.Making.{tidy_before}
use Rattle.pk_multi.proofs.making.untidy_in.Given as goal

abbrev pub invariant-loop-at : goal.invariant-loop-at
invariant-loop-at l = tidy_before l.names.ns l.pack l.at ≡ true
