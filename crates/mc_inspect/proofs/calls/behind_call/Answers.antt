use Rattle.std.proofs.Common.{List, subst}
use Rattle.wm_ast.specs.declared.module.ValType.{ValType}
use Rattle.cc_line.specs.State.{State}
use Rattle.pk_sight.proofs.ShownLemmas.{told_none, told_some}
use Rattle.mc_inspect.specs.steps.Found.{HasNoneBelow, ShowBelow, one_or_none}
use Rattle.mc_inspect.specs.steps.Read.{IsReading}
use Rattle.mc_inspect.specs.steps.Ways.{AreHandedOver, NoneHandedOver}
use Rattle.mc_inspect.proofs.Ended.{ended_answer, no_callers, no_function, no_results, not_followed}
use Rattle.mc_inspect.proofs.Giving.{none_given, some_given}
use Rattle.mc_inspect.proofs.calls.behind_call.Goals as goal

pub returns-then-not-some_gives : goal.returns-then-not-some_gives
returns-then-not-some_gives c s call =
    no_function c.args.m.now c.args.reading.now c.args.func c.args.index c.requires c.args.spot.now s c.args.call.now call
    (none_given c.args.m.now c.module.result.now c.args.call.now.results c.as_slice-types.result.now c.module.ensures.same c.as_slice-types.ensures c.some_gives.result c.if-not-some_gives.true c.some_gives.ensures)

pub returns-then-not-is_followed : goal.returns-then-not-is_followed
returns-then-not-is_followed c s call =
    not_followed c.args.m.now c.args.reading.now c.args.func c.args.index c.requires c.args.spot.now s c.args.call.now call
    (λ f. let so = c.is_followed.ensures.1 f in let never = c.if-not-is_followed.true in absurd cc)

pub returns-in_default : goal.returns-in_default
returns-in_default c s call =
    no_results c.args.m.now c.args.reading.now c.args.func c.args.index c.requires c.args.spot.now s c.args.call.now call
    (λ (p : State) (read : IsReading c.args.reading.now p). subst (λ (ts : List ValType). NoneHandedOver ts p) c.as_slice-types.ensures (told_none _ _ _ c.in_default.is (c.results.ensures p read.scores)))

pub returns-in_default-2 : goal.returns-in_default-2
returns-in_default-2 c s call =
    no_callers c.args.m.now c.args.reading.now c.args.func c.args.index c.requires c.args.spot.now s c.args.call.now call
    (subst (λ (ts : List ValType). HasNoneBelow c.args.m.now c.args.reading.now ts) c.as_slice-types.ensures (told_none _ _ _ c.in_default-2.is c.in_ok-frames.ensures))

pub returns : goal.returns
returns c =
    let given = some_given c.args.m.now c.module.result.now c.args.call.now.results c.as_slice-types.result.now c.module.ensures.same c.as_slice-types.ensures c.some_gives.result c.if-not-some_gives.false c.some_gives.ensures in
    ended_answer c.args.m.now c.args.reading.now c.args.func c.args.index c.requires c.args.spot.now c.args.call.now given.0 given.1
    (c.is_followed.ensures.0 c.if-not-is_followed.false) c.in-Some.top
    (λ (p : State) (read : IsReading c.args.reading.now p).
    subst (λ (ts : List ValType). AreHandedOver ts (one_or_none c.in-Some.top) p) c.as_slice-types.ensures (told_some _ _ _ _ c.in-Some.is (c.results.ensures p read.scores)))
    c.in-Some-2.frames.items
    (subst (λ (ts : List ValType). ShowBelow c.args.m.now c.args.reading.now ts c.in-Some-2.frames.items) c.as_slice-types.ensures (told_some _ _ _ _ c.in-Some-2.is c.in_ok-frames.ensures))
    c.resumed.result c.resumed.ensures
