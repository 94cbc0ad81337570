use Rattle.mc_together.proofs.ProgramLemmas.{may_be_programs}
use Rattle.mc_together.proofs.law.tidy_packs_may_live_together.Goals as goal

pub returns : goal.returns
returns c = may_be_programs
