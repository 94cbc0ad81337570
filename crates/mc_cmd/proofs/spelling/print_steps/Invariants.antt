use Rattle.std.proofs.Common.{◌≡◌, ◌++◌, string_bytes, drop}
use Rattle.mc_nbt.specs.View.{parts}
use Rattle.mc_cmd.specs.Value.{parts_text}
use Rattle.mc_cmd.proofs.spelling.print_steps.Given as goal

abbrev pub invariant-loop-step : goal.invariant-loop-step
invariant-loop-step l = string_bytes l.out ++ parts_text (parts (drop l.step-index l.steps)) ≡ string_bytes l.initial.out ++ parts_text (parts l.steps)
