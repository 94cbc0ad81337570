use Rattle.std.proofs.Common.{length}
use Rattle.io_dev.proofs.Streams.{Wrote}
use Rattle.io_dev.proofs.stream.write_whole.Given as goal

abbrev pub invariant-loop-rest : goal.invariant-loop-rest
invariant-loop-rest g l = Wrote (g.W.Write.contents l.initial.stream) (g.W.Write.contents l.stream) l.bytes l.rest

abbrev pub decreases-loop-rest : goal.decreases-loop-rest
decreases-loop-rest g l = length l.rest
