use Rattle.std.proofs.Common.{refl}
use Rattle.pk_multi.proofs.PlayedLemmas.{played_more}
use Rattle.pk_multi.proofs.law.events_lead_on.Goals as goal

pub returns-clause-boot : goal.returns-clause-boot
returns-clause-boot c = λ ps. record { booted = refl; sound = refl; lawful = tt; standing = refl }

pub returns-clause-event : goal.returns-clause-event
returns-clause-event c = played_more
