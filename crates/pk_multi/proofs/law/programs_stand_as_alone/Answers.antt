use Rattle.pk_multi.proofs.PlayedLemmas.{stands}
use Rattle.pk_multi.proofs.law.programs_stand_as_alone.Goals as goal

pub returns : goal.returns
returns c = λ s ok es h k p at.
    let law = c.each_pack_answers_as_alone.ensures in
    stands s es k p h.standing (law.alone s.packs ok es h.lawful k p at) (law.lawful s.packs es k p h.lawful at)
