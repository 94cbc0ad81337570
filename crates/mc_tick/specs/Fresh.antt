-- Engines in which nothing happened yet.
use Rattle.std.specs.Prelude.{◌≡◌, length, false}
use Rattle.mc_cmd.specs.World.{empty_world}
use Rattle.mc_engine.specs.EngineView.{Shown}

-- an engine of one pack, over the world before any command, of which no chain failed
pub record IsFresh (e : Shown) : Type 0 where
  pub one : length e.packs ≡ 1
  pub world : e.world ≡ empty_world
  pub sound : e.failed ≡ false
