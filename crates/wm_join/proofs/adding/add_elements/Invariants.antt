use Rattle.std.proofs.Common.{◌≡◌, ◌++◌, map, drop}
use Rattle.wm_join.specs.steps.Parts.{element_with}
use Rattle.wm_join.proofs.adding.add_elements.Given as goal

abbrev pub invariant-loop-elem : goal.invariant-loop-elem
invariant-loop-elem l = l.found ++ map (element_with l.numbers) (drop l.elem-index l.elems) ≡ l.initial.found ++ map (element_with l.numbers) l.elems
