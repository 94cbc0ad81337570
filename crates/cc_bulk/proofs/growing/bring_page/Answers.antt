use Rattle.std.proofs.Common.{ap₂}
use Rattle.cc_line.specs.Step.{run_act, set_site}
use Rattle.cc_bulk.proofs.GrowCode.{zero_leaf}
use Rattle.cc_bulk.proofs.growing.bring_page.Goals as goal

pub returns : goal.returns
returns c = ap₂ (λ p t. run_act (set_site p t)) c.page_at_hand.ensures zero_leaf
