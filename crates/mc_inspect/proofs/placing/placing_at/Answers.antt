use Rattle.std.specs.Prelude.{Ok}
use Rattle.std.proofs.Common.{sym, ◌∙◌}
use Rattle.pk_sight.proofs.ShownLemmas.{told_none, told_some}
use Rattle.mc_inspect.proofs.Looking.{mapped}
use Rattle.mc_inspect.proofs.Placed.{no_operand, no_value, placed_answer}
use Rattle.mc_inspect.proofs.placing.placing_at.Goals as goal

pub returns-in_default : goal.returns-in_default
returns-in_default c index s follows =
    no_operand c.args.m.now c.args.reading.now c.args.func index c.args.spot.now s c.args.ints c.args.place c.requires.few c.requires.low c.requires.in_frame follows
    (sym c.as_slice.ensures ∙ told_none _ _ _ c.in_default.is c.last_kind.ensures)

pub returns-in-Some-2 : goal.returns-in-Some-2
returns-in-Some-2 c =
    mapped c.held.result _ _
    (λ o h index s follows.
    placed_answer c.args.m.now c.args.reading.now c.args.func index c.args.spot.now s c.args.ints c.args.place c.requires.few c.requires.low c.requires.in_frame follows
    c.in-Some.kinds.now c.in-Some.last (sym c.as_slice.ensures ∙ told_some _ _ _ _ c.in-Some.is c.last_kind.ensures) c.in-Some-2.value
    (λ p k. told_some _ _ _ _ c.in-Some-2.is (c.in_ok-value.ensures.placed p k)) (Ok o) h)
    c.held.ensures

pub returns-in-None : goal.returns-in-None
returns-in-None c index s follows =
    no_value c.args.m.now c.args.reading.now c.args.func index c.args.spot.now s c.args.ints c.args.place c.requires.few c.requires.low c.requires.in_frame follows
    c.in-Some.kinds.now c.in-Some.last (sym c.as_slice.ensures ∙ told_some _ _ _ _ c.in-Some.is c.last_kind.ensures)
    (λ p k. told_none _ _ _ c.in-None.is (c.in_ok-value.ensures.placed p k))
