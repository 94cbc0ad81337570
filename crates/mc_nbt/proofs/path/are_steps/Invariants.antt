use Rattle.std.proofs.Common.{◌≡◌, drop}
use Rattle.std.specs.List.{list_all}
use Rattle.mc_nbt.specs.Path.{is_part}
use Rattle.mc_nbt.specs.View.{parts}
use Rattle.mc_nbt.proofs.path.are_steps.Given as goal

abbrev pub invariant-loop-step : goal.invariant-loop-step
invariant-loop-step l = list_all is_part (parts l.steps) ≡ list_all is_part (parts (drop l.step-index l.steps))
