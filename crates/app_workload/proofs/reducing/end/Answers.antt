use Rattle.std.proofs.Common.{◌∙◌, sym, ap}
use Rattle.std.specs.Prelude.{option_map}
use Rattle.wm_reduce.specs.Shown.{shown}
use Rattle.app_workload.specs.Reduced.{told_of}
use Rattle.app_workload.proofs.ReducingLemmas.{ended_left, goes_left, open_left, over_left}
use Rattle.app_workload.proofs.reducing.end.Goals as goal

pub returns-in_default : goal.returns-in_default
returns-in_default c =
    let r = c.loop-left.invariant.reducing in
    ap (option_map told_of) (sym c.loop-left.invariant.alike)
    ∙ over_left (shown c.loop-left.reduction) (shown c.step.new.self) c.in_ok-moved.moved c.loop-left.left r c.loop-left-test.true c.in_default.not-Next (c.in_ok-moved.ensures.steps r.sound)

pub loop-left-preserved : goal.loop-left-preserved
loop-left-preserved c =
    let r = c.loop-left.invariant.reducing in
    let next = goes_left (shown c.loop-left.reduction) (shown c.step.new.self) c.in_ok-moved.moved c.loop-left.left r c.loop-left-test.true c.in-Next.is (c.in_ok-moved.ensures.steps r.sound) in
    record { reducing = next.0; alike = sym next.1 ∙ c.loop-left.invariant.alike }

pub returns-in-Ended : goal.returns-in-Ended
returns-in-Ended c =
    let r = c.loop-left.invariant.reducing in
    ap (option_map told_of) (sym c.loop-left.invariant.alike)
    ∙ ended_left (shown c.loop-left.reduction) (shown c.step-2.new.self) c.in_ok-value.field-0 c.in-Ended.value c.loop-left.left r c.loop-left-test.false c.in-Ended.is (c.in_ok-value.ensures.steps r.sound)

pub returns-in_default-2 : goal.returns-in_default-2
returns-in_default-2 c =
    let r = c.loop-left.invariant.reducing in
    ap (option_map told_of) (sym c.loop-left.invariant.alike)
    ∙ open_left (shown c.loop-left.reduction) (shown c.step-2.new.self) c.in_ok-value.field-0 c.loop-left.left r c.loop-left-test.false c.in_default-2.not-Ended (c.in_ok-value.ensures.steps r.sound)
