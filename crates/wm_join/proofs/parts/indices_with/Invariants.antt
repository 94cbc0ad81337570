use Rattle.std.proofs.Common.{◌≡◌, ◌++◌, map, drop}
use Rattle.wm_join.specs.steps.Numbers.{number_of}
use Rattle.wm_join.proofs.parts.indices_with.Given as goal

abbrev pub invariant-loop-index : goal.invariant-loop-index
invariant-loop-index l = l.found.items ++ map (number_of l.numbers) (drop l.index-index l.indices) ≡ map (number_of l.numbers) l.indices
