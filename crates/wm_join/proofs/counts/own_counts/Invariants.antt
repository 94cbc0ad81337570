use Rattle.std.proofs.Common.{◌≡◌, take}
use Rattle.wm_match.specs.Space.{own_count}
use Rattle.wm_join.proofs.CountLaws.{library_counts}
use Rattle.wm_join.proofs.counts.own_counts.Given as goal

abbrev pub invariant-loop-library : goal.invariant-loop-library
invariant-loop-library l = l.counts.items ≡ library_counts (own_count l.space) l.libs l.main (take l.library-index l.libs)
