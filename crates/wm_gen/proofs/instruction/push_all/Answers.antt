use Rattle.std.proofs.Common.{arith}
use Rattle.wm_gen.proofs.CodeLaws.{adds}
use Rattle.wm_gen.proofs.instruction.push_all.Goals as goal

pub loop-instruction-preserved : goal.loop-instruction-preserved
loop-instruction-preserved c =
    adds c.args.bytes.now.items c.loop-instruction.bytes.items c.push_one.new.bytes.items c.args.instructions.now c.loop-instruction.instruction-index _
    (omega arith) c.loop-instruction.invariant c.in_ok-push_one.ensures
