use Rattle.mc_nbt.proofs.DepthLaws.{set_depth_least, set_depth_most}
use Rattle.mc_nbt.proofs.law.set_is_so_deep.Goals as goal

pub returns-clause-least : goal.returns-clause-least
returns-clause-least c = set_depth_least

pub returns-clause-most : goal.returns-clause-most
returns-clause-most c = set_depth_most
