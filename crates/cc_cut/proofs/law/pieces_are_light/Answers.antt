use Rattle.cc_cut.proofs.CostLemmas.{costs_bounded}
use Rattle.cc_cut.proofs.LawLemmas.{all_fit}
use Rattle.cc_cut.proofs.law.pieces_are_light.Goals as goal

pub returns : goal.returns
returns c = record { fit = all_fit; bounded = costs_bounded }
