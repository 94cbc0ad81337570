use Rattle.pk_sight.proofs.ShownLemmas.{told_none, told_some}
use Rattle.mc_inspect.proofs.Looking.{mapped, no_turns, turns_tell}
use Rattle.mc_inspect.proofs.look.turning.Goals as goal

pub returns-in-Some : goal.returns-in-Some
returns-in-Some c =
    mapped c.behind_division.result _ _
    (λ o h index l s d program low p told read runs named.
    let t = told_some _ _ _ _ c.in-Some.is (c.turns_left.ensures p read) in
    turns_tell c.args.m.now c.args.reading.now c.args.func index c.in-Some.left c.args.count o t.0 t.2 (h index l s d t.1 (λ z. t.3)) program low p told read runs named)
    c.behind_division.ensures

pub returns-in-None : goal.returns-in-None
returns-in-None c index l s d =
    no_turns c.args.m.now c.args.reading.now c.args.func index c.args.spot.now s c.args.count c.args.op c.requires d
    (λ p read. told_none _ _ _ c.in-None.is (c.turns_left.ensures p read))
