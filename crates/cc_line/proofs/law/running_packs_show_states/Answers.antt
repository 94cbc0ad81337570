use Rattle.cc_line.proofs.RunningLemmas.{slot_is, key_is, trapped_is}
use Rattle.cc_line.proofs.law.running_packs_show_states.Goals as goal

pub returns-clause-slots : goal.returns-clause-slots
returns-clause-slots c = slot_is

pub returns-clause-keys : goal.returns-clause-keys
returns-clause-keys c = key_is

pub returns-clause-trap : goal.returns-clause-trap
returns-clause-trap c = trapped_is
