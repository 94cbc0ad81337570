use Rattle.pk_multi.specs.Making.{AreApart}
use Rattle.pk_multi.proofs.making.same_space.Given as goal

abbrev pub invariant-loop-at : goal.invariant-loop-at
invariant-loop-at l = AreApart l.packs l.at
