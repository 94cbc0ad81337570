use Rattle.std.proofs.Common.{◌≤◌, subst}
use Rattle.pk_sight.proofs.ShownLemmas.{told_none, told_some}
use Rattle.mc_inspect.proofs.Looking.{mapped}
use Rattle.mc_inspect.proofs.Placed.{beyond, no_body, no_such_cut}
use Rattle.mc_inspect.proofs.placing.placing.Goals as goal

pub returns-in_default : goal.returns-in_default
returns-in_default c =
    no_body c.args.m.now c.args.reading.now c.args.ints c.args.place c.requires.few c.requires.low (told_none _ _ _ c.in_default.is c.cut_that_follows.ensures)

pub returns-in_default-2 : goal.returns-in_default-2
returns-in_default-2 c =
    no_such_cut c.args.m.now c.args.reading.now c.args.ints c.args.place c.requires.few c.requires.low c.in-Some.func c.in-Some.index
    (told_some _ _ _ _ c.in-Some.is c.cut_that_follows.ensures) (told_none _ _ _ c.in_default-2.is c.in_ok-spot.ensures)

pub returns-then-branch : goal.returns-then-branch
returns-then-branch c =
    beyond c.args.m.now c.args.reading.now c.args.ints c.args.place c.requires.few c.requires.low c.in-Some.func c.in-Some.index
    (told_some _ _ _ _ c.in-Some.is c.cut_that_follows.ensures) (subst (λ n. n ≤ c.args.place) c.in_ok-function_placers.ensures c.if-branch.true)

pub returns : goal.returns
returns c =
    mapped c.placing_at.result _ _
    (λ o h. h c.in-Some.index (told_some _ _ _ _ c.in-Some-2.is c.in_ok-spot.ensures) (told_some _ _ _ _ c.in-Some.is c.cut_that_follows.ensures))
    c.placing_at.ensures
