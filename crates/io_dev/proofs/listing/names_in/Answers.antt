use Rattle.io_dev.proofs.Listed.{gathers_one, listing}
use Rattle.io_dev.proofs.listing.names_in.Goals as goal

pub loop-path-preserved-in_ok-insert : goal.loop-path-preserved-in_ok-insert
loop-path-preserved-in_ok-insert c =
    let shows = rw (c.in-Some-2.is, c.as_str.ensures, c.as_str-in-loop-path.ensures) at c.in_ok-name.ensures.some in
    gathers_one _ _ _ _ _ _ _ shows c.in_ok-insert.ensures.updates (rw c.in-Some.ensures.steps at c.loop-path.invariant)

pub returns : goal.returns
returns c = listing _ _ c.args.files.now (rw c.in-None.ensures.steps.0 at c.loop-path.invariant)
