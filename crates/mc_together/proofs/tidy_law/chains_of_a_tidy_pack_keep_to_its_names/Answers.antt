use Rattle.mc_together.proofs.AloneLemmas.{alone_kept, alone_bare}
use Rattle.mc_together.proofs.tidy_law.chains_of_a_tidy_pack_keep_to_its_names.Goals as goal

pub returns-clause-kept : goal.returns-clause-kept
returns-clause-kept c = alone_kept

pub returns-clause-bare : goal.returns-clause-bare
returns-clause-bare c = alone_bare
