use Rattle.cc_init.proofs.StartLemmas.{part_pushed, parts_pushed}
use Rattle.cc_init.proofs.parts.init_parts.Goals as goal

pub loop-number-preserved : goal.loop-number-preserved
loop-number-preserved c =
    part_pushed c.args.m.now c.in_ok-start.start c.in_ok-start.ensures _ _ _ c.loop-number.number c.in_ok-push.ensures.items c.in_ok-init_part.ensures c.loop-number.invariant

pub returns : goal.returns
returns c =
    parts_pushed c.args.m.now c.in_ok-start.start c.in_ok-start.ensures _ c.in_ok-pieces.pieces c.in_ok-number-end.number-end c.loop-number.number c.in_ok-pieces.ensures c.in_ok-number-end.ensures
    c.loop-number.auto.number-end c.loop-number-test.false c.loop-number.invariant
