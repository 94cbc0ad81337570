use Rattle.std.proofs.Common.{◌≡◌, take}
use Rattle.wm_join.specs.steps.Numbers.{own_types}
use Rattle.wm_join.proofs.CountLaws.{library_counts}
use Rattle.wm_join.proofs.counts.type_counts.Given as goal

abbrev pub invariant-loop-library : goal.invariant-loop-library
invariant-loop-library l = l.counts.items ≡ library_counts own_types l.libs l.main (take l.library-index l.libs)
