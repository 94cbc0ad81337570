use Rattle.cc_passes.proofs.Laws.{lean_lead}
use Rattle.cc_passes.proofs.law.lean_items_lead_alike.Goals as goal

pub returns : goal.returns
returns c = lean_lead
