use Rattle.std.proofs.Common.{refl}
use Rattle.wm_place.specs.Stop.{visit_told}
use Rattle.wm_place.specs.Visit.{Visit}
use Rattle.cc_body.specs.Emit.{fills_of_run}
use Rattle.cc_body.specs.steps.Emission.{Ground, fill_turn}
use Rattle.cc_body.specs.steps.PieceBuilder.{ground}
use Rattle.cc_body.proofs.RepeatLemmas.{turn_more, turns_done}
use Rattle.cc_body.proofs.repeating.push_fills.Goals as goal

pub loop-init : goal.loop-init
loop-init c = refl

pub loop-preserved : goal.loop-preserved
loop-preserved c =
    let g : Ground = ground c.args.body.now in
    let v : Visit = visit_told c.args.stop in
    turn_more g v (fill_turn (ground c.args.body.now) (visit_told c.args.stop)) fills_of_run c.loop.counter _ _ _ _ c.loop-test.true c.in_ok-push_ask.ensures c.in_ok-push_fill.ensures c.loop.invariant

pub returns : goal.returns
returns c =
    let g : Ground = ground c.args.body.now in
    let v : Visit = visit_told c.args.stop in
    turns_done g v (fill_turn (ground c.args.body.now) (visit_told c.args.stop)) fills_of_run c.loop.counter _ _ _ c.loop-test.false c.in_ok-push_again.ensures c.loop.invariant
