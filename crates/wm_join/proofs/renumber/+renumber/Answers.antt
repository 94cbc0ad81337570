use Rattle.std.proofs.Common.{map, ap, ◌∙◌}
use Rattle.std.proofs.lemmas.List.{map_push}
use Rattle.wm_ast.specs.View.{op_of}
use Rattle.wm_join.specs.steps.Numbers.{renumbering_of}
use Rattle.wm_join.proofs.CodeLaws.{renumbered_instr, one_more, finished}
use Rattle.wm_join.proofs.renumber.+renumber.Goals as goal

pub renumber-returns : goal.renumber-returns
renumber-returns t c =
    rw c.from_vec.ensures
    (finished (renumbering_of c.args.numbers.now) (map op_of c.loop-instr.found.items) c.args.body.now c.loop-instr.instr-index c.loop-instr-test.false c.loop-instr.invariant)

pub renumber-loop-instr-preserved : goal.renumber-loop-instr-preserved
renumber-loop-instr-preserved t c =
    one_more (renumbered_instr (renumbering_of c.args.numbers.now)) (map op_of c.loop-instr.found.items) (map op_of c.push.new.self.items)
    (map (renumbered_instr (renumbering_of c.args.numbers.now)) c.args.body.now) c.args.body.now c.loop-instr.instr-index
    c.instr-item.result (op_of c.in_ok-renumber_instr.field-0) c.loop-instr-test.true c.instr-item.is c.in_ok-renumber_instr.ensures
    (ap (map op_of) c.in_ok-push.ensures.items ∙ map_push op_of c.loop-instr.found.items c.in_ok-renumber_instr.field-0)
    c.loop-instr.invariant
