use Rattle.std.proofs.Common.{◌≡◌, ◌++◌, drop, length}
use Rattle.std.specs.Prelude.{option_map}
use Rattle.app_words.specs.Arguments.{values_of_args}
use Rattle.app_words.proofs.calling.arguments.Given as goal

abbrev pub invariant-loop-i : goal.invariant-loop-i
invariant-loop-i l = record {
  same_length : length l.kinds ≡ length l.args;
  so_far : values_of_args l.kinds l.args ≡ option_map (λ vs. l.values.items ++ vs) (values_of_args (drop l.i l.kinds) (drop l.i l.args));
}
