use Rattle.std.proofs.Common.{◌∙◌, arith}
use Rattle.std.specs.Int.{w32}
use Rattle.wm_ast.proofs.IntegerLaws.{rotl_is}
use Rattle.wm_num.proofs.int32.rotated_left.Goals as goal

pub returns : goal.returns
returns c = c.rotate_left.ensures ∙ rotl_is w32 c.args.i c.args.j (omega arith) c.ranges.i.fits
