use Rattle.std.proofs.Common.{refl}
use Rattle.cc_values.proofs.Reading.{all_read, one_missing, one_read}
use Rattle.cc_values.proofs.row.values_of.Goals as goal

pub returns-in-None : goal.returns-in-None
returns-in-None c =
    one_missing c.args.kinds.now c.args.ints.now c.loop-kind.kind-index c.loop-kind.values c.loop-kind.rest.now _ _
    c.loop-kind-test.true refl c.in-None.ensures c.loop-kind.invariant

pub loop-kind-preserved : goal.loop-kind-preserved
loop-kind-preserved c =
    one_read c.args.kinds.now c.args.ints.now c.loop-kind.kind-index c.loop-kind.values c.push.new.self
    c.loop-kind.rest.now c.in-Some.others.now _ _ c.in-Some.value c.loop-kind-test.true refl c.in_ok-push-in-Some.ensures.ok
    c.in-Some.ensures c.loop-kind.invariant

pub returns : goal.returns
returns c =
    all_read c.args.kinds.now c.args.ints.now c.loop-kind.kind-index c.loop-kind.values c.loop-kind.rest.now
    c.loop-kind-test.false c.loop-kind.invariant
