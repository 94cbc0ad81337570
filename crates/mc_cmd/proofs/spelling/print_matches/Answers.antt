use Rattle.std.proofs.Common.{append_assoc}
use Rattle.mc_cmd.proofs.SpellingLemmas.{wrote}
use Rattle.mc_cmd.proofs.spelling.print_matches.Goals as goal

pub returns : goal.returns
returns c = wrote _ _ _ _ (rw (c.in_ok-print_range.ensures, c.in_ok-word.ensures, c.in_ok-print_score_front.ensures) (simp append_assoc)) c.word-2.ensures
