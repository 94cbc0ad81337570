use Rattle.std.proofs.Common.{refl, arith}
use Rattle.wm_reduce.proofs.SeenLaws.{too_deep, call_opens}
use Rattle.wm_reduce.proofs.calls.Calls.call.Goals as goal

pub returns-then-len : goal.returns-then-len
returns-then-len c = λ s. (
  too_deep c.args.m.now s c.args.self c.args.index c.args.rest c.in-Some.ensures.0 c.in-Some.ensures.1 (let n = c.len.ensures in omega arith),
  refl,
)

pub returns : goal.returns
returns c = λ s.
    call_opens c.args.m.now s c.args.self c.args.index c.args.rest c.in-Some.ensures.0 c.in-Some.ensures.1 c.in-Some.function c.go_on-callers.result c.open.new.values c.push.new.self c.in_ok-called.called c.in-Some.ensures.2
    (let n = c.len.ensures in omega arith) (let n = c.len-2.ensures in omega arith) c.go_on-callers.ensures c.in_ok-called.ensures.rest c.in_ok-push.ensures (c.in_ok-called.ensures.opened c.in-Some.ensures.0 c.in-Some.ensures.2)
