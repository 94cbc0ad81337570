use Rattle.std.proofs.Common.{append_assoc, append-nil}
use Rattle.mc_cmd.proofs.SpellingLemmas.{wrote}
use Rattle.mc_cmd.proofs.spelling.print_change_by_value.Goals as goal

pub returns : goal.returns
returns c = wrote _ _ _ _ (rw c.in_ok-print_modified.ensures (simp (append_assoc, append-nil))) c.print_value.ensures
