use Rattle.std.proofs.Common.{ap, arith, reverse, sym, ◌∙◌}
use Rattle.cc_move.specs.Calls.{gives_of}
use Rattle.pk_sight.proofs.ShownLemmas.{told_none, told_some}
use Rattle.mc_inspect.proofs.Takings.{are_none, outermost_by_frames, outermost_not}
use Rattle.mc_inspect.proofs.outside.is_outermost.Goals as goal

pub returns-in_default : goal.returns-in_default
returns-in_default c =
    outermost_not c.args.m.now c.args.reading.now c.args.func c.as_slice.result.now
    (ap (λ k. gives_of k c.args.func) (sym c.module.ensures.same) ∙ c.in_ok-gives.ensures ∙ ap reverse (sym c.as_slice.ensures))
    (told_none _ _ _ c.in_default.is c.in_ok-frames.ensures)

pub returns : goal.returns
returns c =
    outermost_by_frames c.args.m.now c.args.reading.now c.args.func c.as_slice.result.now
    (ap (λ k. gives_of k c.args.func) (sym c.module.ensures.same) ∙ c.in_ok-gives.ensures ∙ ap reverse (sym c.as_slice.ensures))
    c.in-Some.frames.items (told_some _ _ _ _ c.in-Some.is c.in_ok-frames.ensures) c.is_empty.result
    (are_none c.in-Some.frames.items _ (omega (arith, c.in-Some.frames.ok.0)) c.is_empty.result c.is_empty.ensures)
