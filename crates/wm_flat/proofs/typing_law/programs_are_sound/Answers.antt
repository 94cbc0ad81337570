use Rattle.wm_flat.proofs.Soundness.{first_is_sound, call_is_sound}
use Rattle.wm_flat.proofs.typing_law.programs_are_sound.Goals as goal

pub returns : goal.returns
returns c = record { first = first_is_sound; calls = call_is_sound }
