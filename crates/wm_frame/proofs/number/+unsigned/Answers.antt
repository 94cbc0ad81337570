use Rattle.std.proofs.Common.{arith}
use Rattle.wm_frame.proofs.Bounds.{more_below, below_64}
use Rattle.wm_frame.proofs.number.+unsigned.Goals as goal

pub overflow_mul-result : goal.overflow_mul-result
overflow_mul-result t c =
    let s = more_below c.args.bits c.in_ok-high-in-len1-up.high 0 (omega arith) c.in_ok-high-in-len1-up.ensures.small (omega arith) in
    let m = below_64 c.args.bits _ c.requires s in
    omega arith

pub overflow_add-result : goal.overflow_add-result
overflow_add-result t c =
    let s = more_below c.args.bits c.in_ok-high-in-len1-up.high c.from-else-bits-le7.result (omega arith) c.in_ok-high-in-len1-up.ensures.small (let h = c.type_inv.bytes 0 in omega arith) in
    let m = below_64 c.args.bits _ c.requires s in
    omega arith

pub returns-in_ok-high-in-len1-up-clause-small : goal.returns-in_ok-high-in-len1-up-clause-small
returns-in_ok-high-in-len1-up-clause-small t c = more_below c.args.bits c.in_ok-high-in-len1-up.high c.from-else-bits-le7.result (omega arith) c.in_ok-high-in-len1-up.ensures.small (let h = c.type_inv.bytes 0 in omega arith)
