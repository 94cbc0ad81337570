use Rattle.std.proofs.lemmas.Result.{err_from_is_err_and}
use Rattle.wm_decode.specs.steps.Listing.{times_at}
use Rattle.wm_decode.proofs.Repeats.{goes_on, ends, is_done}
use Rattle.wm_decode.proofs.part.parts.Goals as goal

pub returns-in_err-part : goal.returns-in_err-part
returns-in_err-part g c =
    let p = err_from_is_err_and c.from_residual.result c.from_residual.ensures.1 in
    rw (p.1, p.2) (ends g.P.Part.at c.in_err-part.field-0.0 c.loop.found.items c.args.count c.loop.counter c.loop.rest.now (times_at g.P.Part.at c.args.count c.args.bytes.now) c.loop-test.true c.in_err-part.ensures c.loop.invariant)

pub loop-preserved : goal.loop-preserved
loop-preserved g c =
    rw c.in_ok-push.ensures.items (goes_on g.P.Part.at c.loop.found.items c.args.count c.loop.counter c.loop.rest.now c.in_ok-part.part c.in_ok-part.after.now (times_at g.P.Part.at c.args.count c.args.bytes.now) c.loop-test.true c.in_ok-part.ensures c.loop.invariant)

pub returns : goal.returns
returns g c =
    rw c.from_vec.ensures (is_done g.P.Part.at c.loop.found.items c.args.count c.loop.counter c.loop.rest.now (times_at g.P.Part.at c.args.count c.args.bytes.now) c.loop-test.false c.loop.invariant)
