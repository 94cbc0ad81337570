use Rattle.std.proofs.Common.{append_assoc}
use Rattle.mc_cmd.proofs.SpellingLemmas.{wrote}
use Rattle.mc_cmd.proofs.spelling.print_function_with.Goals as goal

pub returns : goal.returns
returns c = wrote _ _ _ _ (rw c.in_ok-write.ensures.bytes (simp append_assoc)) c.print_place.ensures
