use Rattle.std.proofs.Common.{◌≡◌, ◌++◌, drop}
use Rattle.cc_body.specs.steps.Sizing.{shapes_from}
use Rattle.cc_body.proofs.frame.Shapes.of_module.Given as goal

abbrev pub invariant-loop-index : goal.invariant-loop-index
invariant-loop-index l =
    l.shapes.items ++ shapes_from l.m l.index (drop l.index l.m.funcs) ≡ shapes_from l.m 0 l.m.funcs
