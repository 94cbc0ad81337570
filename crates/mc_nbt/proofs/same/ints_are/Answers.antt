use Rattle.std.proofs.Common.{◌∙◌, map}
use Rattle.mc_nbt.specs.Tree.{int, items}
use Rattle.mc_nbt.specs.View.{view}
use Rattle.mc_nbt.proofs.SameLemmas.{items_same_turned}
use Rattle.mc_nbt.proofs.same.ints_are.Goals as goal

pub returns : goal.returns
returns c = c.are_ints.ensures ∙ items_same_turned (items (map view c.args.trees.now)) (items (map int c.args.ints.now))
