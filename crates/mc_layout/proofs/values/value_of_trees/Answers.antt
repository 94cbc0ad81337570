use Rattle.mc_nbt.specs.View.{view}
use Rattle.mc_layout.proofs.LayoutLemmas.{no_value}
use Rattle.mc_layout.proofs.values.value_of_trees.Goals as goal

pub returns-in_default-5 : goal.returns-in_default-5
returns-in_default-5 c = no_value view c.args.trees.now c.in_default.len_at_least
