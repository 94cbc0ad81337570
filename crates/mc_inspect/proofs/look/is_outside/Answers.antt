use Rattle.std.proofs.Common.{ap, false, subst, sym}
use Rattle.cc_line.specs.Key.{body_piece}
use Rattle.cc_line.specs.View.{piece_view}
use Rattle.mc_inspect.specs.steps.Found.{IsOutside, TellsOfCall}
use Rattle.mc_inspect.proofs.OutsideCalls.{end_inside, init_inside}
use Rattle.mc_inspect.proofs.look.is_outside.Goals as goal

pub returns-in-Body : goal.returns-in-Body
returns-in-Body c =
    subst (λ i. TellsOfCall c.args.m.now c.args.reading.now i (IsOutside c.args.m.now) c.enters_at.result) (ap piece_view (sym c.in-Body.is))
    (subst (λ k. TellsOfCall k c.args.reading.now (body_piece c.in-Body.func c.in-Body.index) (IsOutside k) c.enters_at.result) c.module.ensures.same c.enters_at.ensures)

pub returns-in-Init : goal.returns-in-Init
returns-in-Init c =
    subst (λ i. TellsOfCall c.args.m.now c.args.reading.now i (IsOutside c.args.m.now) false) (ap piece_view (sym c.in-Init.is)) (init_inside c.args.m.now c.args.reading.now _)

pub returns-in-End : goal.returns-in-End
returns-in-End c =
    subst (λ i. TellsOfCall c.args.m.now c.args.reading.now i (IsOutside c.args.m.now) false) (ap piece_view (sym c.in-End.is)) (end_inside c.args.m.now c.args.reading.now _)
