use Rattle.std.proofs.Common.{◌++◌}
use Rattle.wm_gen.specs.Shortest.{sevens}
use Rattle.wm_gen.proofs.NumberLaws.{OnWay}
use Rattle.wm_gen.proofs.number.push_sevens.Given as goal

abbrev pub invariant-loop-rest : goal.invariant-loop-rest
invariant-loop-rest l = OnWay l.last (l.initial.bytes.items ++ sevens l.last 9 l.n) l.bytes.items l.rest

abbrev pub decreases-loop-rest : goal.decreases-loop-rest
decreases-loop-rest l = l.rest
