use Rattle.mc_nbt.specs.Tree.{int}
use Rattle.mc_layout.proofs.LayoutLemmas.{no_value}
use Rattle.mc_layout.proofs.values.value_of_ints.Goals as goal

pub returns-in_default-2 : goal.returns-in_default-2
returns-in_default-2 c = no_value int c.args.ints.now c.in_default.len_at_least
