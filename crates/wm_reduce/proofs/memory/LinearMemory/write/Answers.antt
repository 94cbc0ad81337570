use Rattle.std.proofs.Common.{arith, ap, length}
use Rattle.wm_ast.specs.Storage.{bytes_of}
use Rattle.wm_flat.proofs.MemoryLaws.{overwritten_length}
use Rattle.wm_reduce.proofs.ListLaws.{bytes_of_length}
use Rattle.wm_reduce.proofs.memory.LinearMemory.write.Goals as goal

pub invariant_of-self : goal.invariant_of-self
invariant_of-self c =
    let n = bytes_of_length c.args.width c.args.number in
    let e = ap length c.overwrite.ensures in
    let h = overwritten_length c.self.inside.bytes.items c.args.at (bytes_of c.args.width c.args.number) (let f = c.if-len-at.false in let l = c.len.ensures in let o = c.self.inside.bytes.ok.0 in omega arith) in
    let i = c.self.invariant in omega arith
