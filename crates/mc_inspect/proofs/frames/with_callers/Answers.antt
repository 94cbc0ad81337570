use Rattle.std.proofs.Common.{sym, ap, ◌∙◌, reverse}
use Rattle.cc_move.specs.Calls.{gives_of}
use Rattle.pk_sight.proofs.ShownLemmas.{told_none, told_some}
use Rattle.mc_inspect.proofs.Holding.{frame_shown, unwaited}
use Rattle.mc_inspect.proofs.frames.with_callers.Goals as goal

pub returns-in_default : goal.returns-in_default
returns-in_default c =
    unwaited c.args.m.now c.args.reading.now c.as_slice.result.now c.args.frame.func
    (ap (λ k. gives_of k c.args.frame.func) (sym c.module.ensures.same) ∙ c.in_ok-gives.ensures ∙ ap reverse (sym c.as_slice.ensures))
    (told_none _ _ _ c.in_default.is c.in_ok-frames.ensures)

pub returns : goal.returns
returns c =
    frame_shown c.args.m.now c.args.reading.now c.as_slice.result.now c.args.frame c.args.spot.now _ _
    (ap (λ k. gives_of k c.args.frame.func) (sym c.module.ensures.same) ∙ c.in_ok-gives.ensures ∙ ap reverse (sym c.as_slice.ensures))
    (told_some _ _ _ _ c.in-Some.is c.in_ok-frames.ensures) c.in_ok-shown.ensures
