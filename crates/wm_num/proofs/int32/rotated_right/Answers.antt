use Rattle.std.proofs.Common.{◌∙◌, arith}
use Rattle.std.specs.Int.{w32}
use Rattle.wm_ast.proofs.IntegerLaws.{rotr_is}
use Rattle.wm_num.proofs.int32.rotated_right.Goals as goal

pub returns : goal.returns
returns c = c.rotate_right.ensures ∙ rotr_is w32 c.args.i c.args.j (omega arith) c.ranges.i.fits
