use Rattle.wm_reduce.proofs.ListLaws.{one_carried}
use Rattle.wm_reduce.proofs.calls.carry.Goals as goal

pub returns : goal.returns
returns c = one_carried c.args.gives c.in-Some.field-0 c.in-Some-pop.value c.pop.new.self c.args.values c.args.under.now c.push.new.self c.in-Some.is c.in-Some-pop.ensures c.in_ok-push-in-Some-pop.ensures
