use Rattle.wm_flat.proofs.Soundness.{first_is_typed, call_is_typed, exported}
use Rattle.wm_flat.proofs.typing_law.programs_are_typed.Goals as goal

pub returns : goal.returns
returns c = record { first = first_is_typed; calls = call_is_typed; exports = exported }
