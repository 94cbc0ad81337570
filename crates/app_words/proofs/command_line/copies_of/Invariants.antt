use Rattle.std.proofs.Common.{◌≡◌, take}
use Rattle.app_words.proofs.command_line.copies_of.Given as goal

abbrev pub invariant-loop-word : goal.invariant-loop-word
invariant-loop-word l = l.copies ≡ take l.word-index l.words
