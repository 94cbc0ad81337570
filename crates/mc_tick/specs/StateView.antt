-- The states that the program's values stand for.
use Rattle.std.specs.Prelude.{◌≡◌}
use Rattle.mc_cmd.specs.Pack.{Pack}
use Rattle.mc_engine.specs.EngineView.{shown}
use Rattle.mc_tick.specs.State.{State, IsRunning}
use Rattle.mc_tick.specs.Packs.{as_one}
use Rattle.mc_tick.specs.PlayView.{play_state}
use Rattle.mc_tick.specs.declared.loaded.Loaded.{Loaded}
use Rattle.mc_tick.specs.declared.resting.Resting.{Resting}
use Rattle.mc_tick.specs.declared.working.Working.{Working}
use Rattle.mc_tick.specs.declared.resumed.Resumed.{Resumed}
use Rattle.mc_tick.specs.declared.resumed.Resumed.TheVariants as resumed

-- the pack of an engine that isn't loaded yet
abbrev pub loaded_pack : Loaded → Pack
loaded_pack l = as_one (shown l.engine).packs

abbrev pub resting_state : Resting → State
resting_state r = play_state r.play

abbrev pub working_state : Working → State
working_state w = play_state w.play

abbrev pub state_of : Resumed → State
state_of (resumed.Resting r) = resting_state r
state_of (resumed.Working w) = working_state w

-- it is told as working exactly where it is running
abbrev pub IsTold : Resumed → Type 0
IsTold (resumed.Resting r) = ¬ IsRunning (resting_state r)
IsTold (resumed.Working w) = IsRunning (working_state w)

-- the pack stands so
pub record IsResumed (s : State) (r : Resumed) : Type 0 where
  pub state : state_of r ≡ s
  pub told : IsTold r
