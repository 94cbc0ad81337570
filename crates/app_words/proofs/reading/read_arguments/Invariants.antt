use Rattle.std.proofs.Common.{◌≡◌, ◌++◌, map, drop}
use Rattle.std.specs.Prelude.{option_map}
use Rattle.app_words.specs.Script.{arguments_read}
use Rattle.app_words.proofs.reading.read_arguments.Given as goal

abbrev pub invariant-loop-word : goal.invariant-loop-word
invariant-loop-word l = arguments_read (map (λ w. w.now) l.words) ≡ option_map (λ zs. l.args.items ++ zs) (arguments_read (map (λ w. w.now) (drop l.word-index l.words)))
