use Rattle.std.proofs.Common.{arith}
use Rattle.cc_known.proofs.Masks.{counted}
use Rattle.cc_known.proofs.mask.push_and.Goals as goal

pub rest-requires : goal.rest-requires
rest-requires c = (counted c.args.number (omega (arith, c.if-number-eq0.false)) (omega (arith, c.if-number-ge2147483648.false))).0

pub push_copied-requires-2 : goal.push_copied-requires-2
push_copied-requires-2 c = (counted c.args.number (omega (arith, c.if-number-eq0.false)) (omega (arith, c.if-number-ge2147483648.false))).0
