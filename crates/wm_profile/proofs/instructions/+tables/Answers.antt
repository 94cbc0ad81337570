use Rattle.std.proofs.Common.{rules}
use Rattle.wm_ast.specs.declared.instruction.Instr.{the_lemmas}
use Rattle.wm_profile.proofs.Finding.{found_here, found_later, in_instructions, labels_append}
use Rattle.wm_profile.proofs.instructions.+tables.Goals as goal

pub too_many_labels-returns-in-Some : goal.too_many_labels-returns-in-Some
too_many_labels-returns-in-Some t c = found_here in_instructions c.args.body.now c.loop-instr.instr-index c.instr-item.result c.in-Some.labels c.loop-instr-test.true c.loop-instr.invariant (rw (← c.instr-item.is) c.in-Some.ensures)

pub too_many_labels-loop-instr-preserved : goal.too_many_labels-loop-instr-preserved
too_many_labels-loop-instr-preserved t c = found_later in_instructions c.args.body.now c.loop-instr.instr-index c.instr-item.result c.loop-instr-test.true c.loop-instr.invariant (rw (← c.instr-item.is) c.in_default.ensures)

pub too_many_labels_inside-returns-in-If : goal.too_many_labels_inside-returns-in-If
too_many_labels_inside-returns-in-If t c = rw c.in-If.is (search (rules, the_lemmas, labels_append))
