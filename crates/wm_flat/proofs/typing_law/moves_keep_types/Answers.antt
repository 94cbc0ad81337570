use Rattle.wm_flat.proofs.Keeps.{keeps, leads_typed}
use Rattle.wm_flat.proofs.RangeLaws.{in_range}
use Rattle.wm_flat.proofs.typing_law.moves_keep_types.Goals as goal

pub returns : goal.returns
returns c = record { keeps = λ m results d p t. keeps m results d.store d.flat p t.store t.flat; leads = leads_typed; in_range = in_range }
