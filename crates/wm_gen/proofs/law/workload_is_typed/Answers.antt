use Rattle.wm_gen.proofs.ModuleLaws.{is_typed}
use Rattle.wm_gen.proofs.law.workload_is_typed.Goals as goal

pub returns : goal.returns
returns c = λ number size least most. is_typed number size most
