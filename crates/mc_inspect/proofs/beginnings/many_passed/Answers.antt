use Rattle.std.proofs.Common.{subst, ℕ}
use Rattle.pk_sight.proofs.ShownLemmas.{told_none, told_some}
use Rattle.mc_inspect.specs.steps.Openings.{IsBegun, IsBegunNot}
use Rattle.mc_inspect.proofs.Opening.{many_some, unbegun, unfetched, unpassed}
use Rattle.mc_inspect.proofs.beginnings.many_passed.Goals as goal

pub returns-in_default : goal.returns-in_default
returns-in_default c =
    unfetched c.args.m.now c.args.reading.now c.args.func c.args.spot.now c.args.ty.now (told_none _ _ _ c.in_default.is c.first_fetched.ensures)

pub returns-in_default-2 : goal.returns-in_default-2
returns-in_default-2 c =
    unpassed c.args.m.now c.args.reading.now c.args.func c.args.spot.now c.args.ty.now c.in-Some.caller c.in-Some.index
    (told_some _ _ _ _ c.in-Some.is c.first_fetched.ensures).1 (told_none _ _ _ c.in_default-2.is c.in_ok-call.ensures)

pub returns-in_ok-spot_seen-in-Some-3 : goal.returns-in_ok-spot_seen-in-Some-3
returns-in_ok-spot_seen-in-Some-3 c =
    many_some c.args.m.now c.args.reading.now c.args.func c.args.spot.now c.args.ty.now c.in-Some.caller c.in-Some.index
    (told_some _ _ _ _ c.in-Some.is c.first_fetched.ensures).1 c.in-Some-2.call.frames.items c.in-Some-2.call.given.now
    (told_some _ _ _ _ c.in-Some-2.is c.in_ok-call.ensures) c.in-Some-3.frame
    (subst (λ (n : ℕ). IsBegun c.args.func c.args.spot.now n c.in-Some-2.call.given.now c.in-Some-3.frame) c.len.ensures
    (told_some _ _ _ _ c.in-Some-3.is c.in_ok-frame.ensures))
    c.in_ok-spot_seen-in-Some-3.field-0 c.in_ok-spot_seen-in-Some-3.ensures

pub returns-in-None : goal.returns-in-None
returns-in-None c =
    unbegun c.args.m.now c.args.reading.now c.args.func c.args.spot.now c.args.ty.now c.in-Some.caller c.in-Some.index
    (told_some _ _ _ _ c.in-Some.is c.first_fetched.ensures).1 c.in-Some-2.call.frames.items c.in-Some-2.call.given.now
    (told_some _ _ _ _ c.in-Some-2.is c.in_ok-call.ensures)
    (subst (λ (n : ℕ). IsBegunNot c.args.spot.now n c.in-Some-2.call.given.now) c.len.ensures (told_none _ _ _ c.in-None.is c.in_ok-frame.ensures))
