use Rattle.cc_cut.proofs.CutLemmas.{pieces_lead_on}
use Rattle.cc_cut.proofs.law.pieces_lead_to_their_exits.Goals as goal

pub returns : goal.returns
returns c = pieces_lead_on
