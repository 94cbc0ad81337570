use Rattle.std.proofs.Common.{◌≡◌, ◌++◌, replicate}
use Rattle.wm_gen.specs.Shortest.{unsigned}
use Rattle.wm_gen.proofs.generating.kinds.Given as goal

abbrev pub invariant-loop-index : goal.invariant-loop-index
invariant-loop-index l = l.bytes.items ≡ unsigned l.count ++ replicate l._index 0
