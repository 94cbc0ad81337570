use Rattle.std.proofs.Common.{◌≡◌, drop}
use Rattle.pk_multi.specs.Making.{has_space}
use Rattle.pk_multi.proofs.making.has_space.Given as goal

abbrev pub invariant-loop-pack : goal.invariant-loop-pack
invariant-loop-pack l = has_space l.ns l.packs ≡ has_space l.ns (drop l.pack-index l.packs)
