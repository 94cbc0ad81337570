-- The state of a play, over the packs of its engine.
use Rattle.mc_engine.specs.EngineView.{shown}
use Rattle.mc_tick.specs.State.{State}
use Rattle.mc_tick.specs.Packs.{as_one}
use Rattle.mc_tick.specs.declared.play.Play.{Play}

-- the packs of the engine as one, its world, and what is counted of its chains
abbrev pub play_state : Play → State
play_state p = record {
  pack = as_one (shown p.engine).packs;
  standing = record { world = (shown p.engine).world; ticks = p.ticks; used = p.used; cut = p.cut };
}
