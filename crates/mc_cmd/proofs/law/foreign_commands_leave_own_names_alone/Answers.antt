use Rattle.mc_cmd.proofs.ForeignLemmas.{own_kept}
use Rattle.mc_cmd.proofs.law.foreign_commands_leave_own_names_alone.Goals as goal

pub returns : goal.returns
returns c = own_kept
