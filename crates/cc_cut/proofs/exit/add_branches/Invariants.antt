use Rattle.std.proofs.Common.{◌≡◌, ◌++◌, drop, map}
use Rattle.wm_place.specs.Stop.{level_told}
use Rattle.cc_cut.specs.steps.Exits.{branches_paths, indices_in}
use Rattle.cc_cut.proofs.exit.add_branches.Given as goal

abbrev pub invariant-loop-label : goal.invariant-loop-label
invariant-loop-label l =
    l.exits.items ++ indices_in l.indices (branches_paths l.path (map level_told l.levels) (drop l.label-index l.labels))
    ≡ l.initial.exits.items ++ indices_in l.indices (branches_paths l.path (map level_told l.levels) l.labels)
