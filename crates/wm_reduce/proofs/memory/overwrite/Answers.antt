use Rattle.std.proofs.Common.{arith}
use Rattle.wm_reduce.proofs.ListLaws.{one_written, all_written}
use Rattle.wm_reduce.proofs.memory.overwrite.Goals as goal

pub loop-i-preserved : goal.loop-i-preserved
loop-i-preserved c = one_written c.loop-i.bytes.items c.args.bytes.now.items c.args.at c.args.width c.loop-i.i c.loop-i.rest c.args.number c.requires c.loop-i-test.true c.loop-i.invariant

pub returns : goal.returns
returns c = all_written c.loop-i.bytes.items c.args.bytes.now.items c.args.at c.args.width c.loop-i.i c.loop-i.rest c.args.number (let t = c.loop-i-test.false in let u = c.loop-i.auto.i-end in omega arith) c.loop-i.invariant
