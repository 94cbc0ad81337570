use Rattle.std.proofs.Common.{append_assoc, append-nil}
use Rattle.mc_cmd.proofs.SpellingLemmas.{wrote}
use Rattle.mc_cmd.proofs.spelling.print_modified.Goals as goal

pub returns : goal.returns
returns c = wrote _ _ _ _ (rw (c.in_ok-word-2.ensures, c.in_ok-print_place.ensures, c.in_ok-word.ensures) (simp (append_assoc, append-nil))) c.word-3.ensures
