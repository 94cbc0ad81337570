use Rattle.std.proofs.Common.{◌∙◌, arith}
use Rattle.std.specs.Int.{w64}
use Rattle.wm_ast.proofs.IntegerLaws.{rotl_of_rest}
use Rattle.wm_num.proofs.int64.rotated_left.Goals as goal

pub returns : goal.returns
returns c = c.rotate_left.ensures ∙ rotl_of_rest w64 c.args.i c.args.j (omega arith) c.ranges.i.fits
