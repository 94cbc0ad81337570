use Rattle.std.proofs.Common.{arith}
use Rattle.std.proofs.lemmas.List.{drop_all}
use Rattle.wm_ast.proofs.nesting.+nesting.Goals as goal

pub depth_of_all-returns : goal.depth_of_all-returns
depth_of_all-returns t c =
    let same = rw (drop_all c.loop-instr.instr-index c.args.body.now c.loop-instr-test.false) at c.loop-instr.invariant.same in
    omega (arith, same, c.loop-instr.invariant.fits)
