use Rattle.std.proofs.Common.{◌≡◌, ◌++◌, drop, map}
use Rattle.wm_place.specs.Stop.{level_told}
use Rattle.cc_spots.specs.Spot.{left_round}
use Rattle.cc_spots.proofs.place.left.Given as goal

abbrev pub invariant-loop-level : goal.invariant-loop-level
invariant-loop-level l =
    l.left.items ++ left_round (map level_told (drop l.level-index l.levels)) ≡ left_round (map level_told l.levels)
