use Rattle.wm_reduce.proofs.SeenLaws.{leave_block}
use Rattle.wm_reduce.proofs.calls.Calls.leave.Goals as goal

pub returns : goal.returns
returns c = λ m s.
    leave_block m s c.args.self c.in-Some.block c.pop.new.self c.push_all.new.self c.in-Some.ensures c.in_ok-push_all-in-Some.ensures
