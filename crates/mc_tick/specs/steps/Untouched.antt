-- Engines in which nothing happened yet, place by place.
use Rattle.std.specs.Prelude.{◌≡◌, pos, length, true, false, None, is_none}
use Rattle.mc_cmd.specs.Form.{Text}
use Rattle.mc_cmd.specs.World.{World}
use Rattle.mc_engine.specs.EngineView.{Shown}

pub record IsEmpty (w : World) : Type 0 where
  pub objectives : (o : Text) → w.objectives o ≡ false
  pub scores : (h o : Text) → w.scores h o ≡ None
  pub storages : (i : Text) → is_none (w.storages i) ≡ true
  pub rule : w.rule ≡ pos 65536

pub record IsUntouched (e : Shown) : Type 0 where
  pub one : length e.packs ≡ 1
  pub empty : IsEmpty e.world
