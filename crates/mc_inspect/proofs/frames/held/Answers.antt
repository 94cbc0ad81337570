use Rattle.std.proofs.Common.{◌∙◌, subst, sym}
use Rattle.pk_sight.proofs.ShownLemmas.{told_none, told_some}
use Rattle.mc_inspect.specs.steps.Found.{IsFrameUnder, one_or_none}
use Rattle.mc_inspect.proofs.Holding.{held_answer, no_frame_held}
use Rattle.mc_inspect.proofs.frames.held.Goals as goal

pub returns-in_default : goal.returns-in_default
returns-in_default c index s program p cs a read h =
    no_frame_held c.args.m.now c.args.func index c.args.spot.now s c.args.kinds.now c.args.top c.requires p cs a h
    c.as_slice-places.result.now (read.places ∙ sym c.as_slice-places.ensures.value) (told_none _ _ _ c.in_default.is c.in_ok-frame.ensures)

pub returns : goal.returns
returns c =
    held_answer c.args.m.now c.args.func c.args.spot.now c.args.kinds.now c.args.top c.requires c.args.reading.now c.in-Some.frame
    (subst (λ zs. IsFrameUnder c.args.func c.args.spot.now c.args.kinds.now zs (one_or_none c.args.top) c.in-Some.frame)
    c.as_slice-places.ensures.value (told_some _ _ _ _ c.in-Some.is c.in_ok-frame.ensures))
    c.with_callers.result c.with_callers.ensures
