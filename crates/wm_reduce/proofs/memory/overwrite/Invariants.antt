use Rattle.wm_reduce.proofs.ListLaws.{Written}
use Rattle.wm_reduce.proofs.memory.overwrite.Given as goal

abbrev pub invariant-loop-i : goal.invariant-loop-i
invariant-loop-i l = Written l.bytes.items l.initial.bytes.items l.at l.width l.i l.rest l.number
