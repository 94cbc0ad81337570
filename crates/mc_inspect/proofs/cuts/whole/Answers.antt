use Rattle.std.proofs.Common.{[], sym, ◌∙◌}
use Rattle.std.proofs.lemmas.List.{append-nil}
use Rattle.pk_sight.proofs.ShownLemmas.{told_none, told_some}
use Rattle.mc_inspect.proofs.AtCuts.{at_its_spot, no_cut}
use Rattle.mc_inspect.proofs.cuts.whole.Goals as goal

pub returns-in_default : goal.returns-in_default
returns-in_default c = no_cut c.args.m.now c.args.reading.now c.args.func c.args.index [] (told_none _ _ _ c.in_default.is c.in_ok-spot.ensures)

pub held-requires : goal.held-requires
held-requires c = sym (append-nil _ ∙ c.as_slice.ensures)

pub returns : goal.returns
returns c =
    at_its_spot c.args.m.now c.args.reading.now c.args.func c.args.index c.in-Some.spot [] c.held.result
    (told_some _ _ _ _ c.in-Some.is c.in_ok-spot.ensures) c.held.ensures
