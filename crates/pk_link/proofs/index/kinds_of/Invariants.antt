use Rattle.std.proofs.Common.{◌≡◌, map, take}
use Rattle.pk_link.specs.Functions as spec
use Rattle.pk_link.proofs.index.kinds_of.Given as goal

abbrev pub invariant-loop-ty : goal.invariant-loop-ty
invariant-loop-ty l = l.kinds.items ≡ map spec.int_kind (take l.ty-index l.types)
