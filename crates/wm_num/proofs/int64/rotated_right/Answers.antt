use Rattle.std.proofs.Common.{◌∙◌, arith}
use Rattle.std.specs.Int.{w64}
use Rattle.wm_ast.proofs.IntegerLaws.{rotr_of_rest}
use Rattle.wm_num.proofs.int64.rotated_right.Goals as goal

pub returns : goal.returns
returns c = c.rotate_right.ensures ∙ rotr_of_rest w64 c.args.i c.args.j (omega arith) c.ranges.i.fits
