use Rattle.std.proofs.Common.{arith}
use Rattle.std.proofs.lemmas.Grind.{common_steps}
use Rattle.std.proofs.lemmas.List.{drop_all}
use Rattle.cc_line.proofs.ItemViewLemmas.{steps_go_on, steps_done}
use Rattle.cc_line.proofs.build.push_steps.Goals as goal

pub loop-step-preserved : goal.loop-step-preserved
loop-step-preserved c = steps_go_on _ _ _ _ _ _ (grind (arith, common_steps, c.loop-step-test.true)) c.in_ok-push_item.ensures c.loop-step.invariant

pub returns : goal.returns
returns c = steps_done _ _ _ (drop_all c.loop-step.step-index c.args.steps.now c.loop-step-test.false) c.loop-step.invariant
