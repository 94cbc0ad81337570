use Rattle.cc_cut.proofs.RankLemmas.{ranks_rise, ranks_low}
use Rattle.cc_cut.proofs.law.ranks_rise.Goals as goal

pub returns : goal.returns
returns c = record { rise = ranks_rise; low = ranks_low }
