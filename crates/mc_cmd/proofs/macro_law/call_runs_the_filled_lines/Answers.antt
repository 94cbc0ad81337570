use Rattle.mc_cmd.proofs.MacroLemmas.{falls_macro}
use Rattle.mc_cmd.proofs.macro_law.call_runs_the_filled_lines.Goals as goal

pub returns : goal.returns
returns c = falls_macro
