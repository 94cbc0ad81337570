use Rattle.std.proofs.Common.{◌≡◌, drop}
use Rattle.std.specs.Prelude.{option_and_then}
use Rattle.mc_nbt.specs.steps.Reading.{built, run, ended}
use Rattle.mc_nbt.specs.steps.BuildView.{build_state, open_frames}
use Rattle.mc_nbt.proofs.build.build.Given as goal

abbrev pub invariant-loop-c : goal.invariant-loop-c
invariant-loop-c l = built l.bytes ≡ option_and_then ended (run (build_state (open_frames l.stack.items) l.state) (drop l.c-index l.bytes))
