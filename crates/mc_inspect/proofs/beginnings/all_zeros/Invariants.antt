use Rattle.std.proofs.Common.{◌≡◌, take, replicate, pos}
use Rattle.mc_inspect.proofs.beginnings.all_zeros.Given as goal

abbrev pub invariant-loop-int : goal.invariant-loop-int
invariant-loop-int l = take l.int-index l.ints ≡ replicate l.int-index (pos 0)
