use Rattle.std.proofs.Common.{◌≡◌, ◌++◌, map, drop}
use Rattle.wm_ast.specs.View.{op_of}
use Rattle.wm_join.specs.steps.Numbers.{renumbering_of}
use Rattle.wm_join.proofs.CodeLaws.{renumbered_instr}
use Rattle.wm_join.proofs.renumber.+renumber.Given as goal

abbrev pub invariant-renumber-loop-instr : goal.invariant-renumber-loop-instr
invariant-renumber-loop-instr l =
    map op_of l.found.items ++ map (renumbered_instr (renumbering_of l.numbers)) (drop l.instr-index l.body) ≡ map (renumbered_instr (renumbering_of l.numbers)) l.body
