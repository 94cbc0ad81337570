use Rattle.std.proofs.Common.{◌≡◌, ◌++◌, length}
use Rattle.std.specs.Prelude.{option_map}
use Rattle.app_words.specs.steps.WordsReading.{pairs_read}
use Rattle.app_words.proofs.command_line.read_pairs.Given as goal

abbrev pub invariant-loop-left : goal.invariant-loop-left
invariant-loop-left l = pairs_read l.words ≡ option_map (λ ls. l.files ++ ls) (pairs_read l.left)

abbrev pub decreases-loop-left : goal.decreases-loop-left
decreases-loop-left l = length l.left
