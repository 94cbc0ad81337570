use Rattle.wm_reduce.proofs.SeenLaws.{return_outside, return_inside}
use Rattle.wm_reduce.proofs.calls.Calls.leave_frame.Goals as goal

pub returns-in-None : goal.returns-in-None
returns-in-None c = λ m s is.
    return_outside m s c.args.self is c.in_ok-carry-in-None.field-0 c.new-results.result c.carry.new.under c.in-None.ensures.0 c.if-not-branch.false c.new-results.ensures c.in_ok-carry-in-None.ensures

pub returns : goal.returns
returns c = λ m s is.
    return_inside m s c.args.self is c.in_ok-carry-in-Some.field-0 c.in-Some.caller c.pop.new.self c.carry-in-Some.new.under c.in-Some.ensures c.if-not-branch-2.false c.in_ok-carry-in-Some.ensures
