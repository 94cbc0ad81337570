use Rattle.pk_sight.proofs.ShownLemmas.{agree}
use Rattle.pk_sight.proofs.law.states_agree.Goals as goal

pub returns : goal.returns
returns c = agree
