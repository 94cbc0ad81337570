use Rattle.std.proofs.Common.{sym, ap, ◌∙◌}
use Rattle.wm_reduce.specs.steps.Executing.{is_double}
use Rattle.wm_reduce.proofs.StepLaws.{ok, by_result, operated_one, operated_two}
use Rattle.wm_reduce.proofs.simple.operate.Goals as goal

pub returns-then-not-is_double : goal.returns-then-not-is_double
returns-then-not-is_double c =
    ok c.answer.result _ _ (λ x h m s own. by_result s own x _ _ _
    (operated_one m s own c.args.op c.in-Some.last c.pop.new.self c.args.values.now c.apply1.result
    (ap is_double (sym c.operator-2.ensures) ∙ sym c.is_double.ensures ∙ c.if-not-is_double.true) c.in-Some.ensures c.apply1.ensures) (h m s own)) c.answer.ensures

pub returns : goal.returns
returns c =
    ok c.answer-2.result _ _ (λ x h m s own. by_result s own x _ _ _
    (operated_two m s own c.args.op c.in-Some-pop.first c.in-Some.last c.pop.new.self c.pop-2.new.self c.args.values.now c.apply2.result
    (ap is_double (sym c.operator-2.ensures) ∙ sym c.is_double.ensures ∙ c.if-not-is_double.false) c.in-Some.ensures c.in-Some-pop.ensures c.apply2.ensures) (h m s own)) c.answer-2.ensures
