use Rattle.mc_cmd.proofs.MacroLemmas.{open_said}
use Rattle.mc_cmd.proofs.macro_law.macro_line_is_a_pattern.Goals as goal

pub returns : goal.returns
returns c = open_said
