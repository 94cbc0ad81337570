use Rattle.std.proofs.Common.{◌≡◌, drop}
use Rattle.pk_multi.specs.Counting.{spaces}
use Rattle.pk_multi.specs.Own.{is_own_under}
use Rattle.pk_multi.proofs.naming.is_any.Given as goal

abbrev pub invariant-loop-program : goal.invariant-loop-program
invariant-loop-program l = is_own_under (spaces l.programs) l.name ≡ is_own_under (spaces (drop l.program-index l.programs)) l.name
