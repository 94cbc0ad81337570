use Rattle.std.proofs.Common.{◌≡◌, true, drop, map, take}
use Rattle.std.specs.List.{list_all}
use Rattle.mc_cmd.specs.View.{sub_view}
use Rattle.mc_cmd.specs.World.{store_all}
use Rattle.mc_world.specs.WorldView.{seen}
use Rattle.mc_world.specs.steps.Stores.{store_stands}
use Rattle.mc_world.proofs.world.World.store_all.Given as goal

abbrev pub invariant-loop-sub : goal.invariant-loop-sub
invariant-loop-sub l = record {
  stand : list_all (store_stands (seen l.self)) (map sub_view (drop l.sub-index l.subs)) ≡ true;
  made : seen l.self ≡ store_all (map sub_view (take l.sub-index l.subs)) l.n (seen l.initial.self);
}
