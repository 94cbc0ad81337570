use Rattle.std.proofs.Common.{◌≡◌, drop, map}
use Rattle.mc_cmd.specs.View.{sub_view}
use Rattle.mc_cmd.specs.World.{all_go_on}
use Rattle.mc_world.specs.WorldView.{seen}
use Rattle.mc_world.proofs.world.World.all_go_on.Given as goal

abbrev pub invariant-loop-sub : goal.invariant-loop-sub
invariant-loop-sub l = all_go_on (map sub_view l.subs) (seen l.self) ≡ all_go_on (map sub_view (drop l.sub-index l.subs)) (seen l.self)
