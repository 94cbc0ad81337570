use Rattle.std.proofs.Common.{subst}
use Rattle.pk_sight.proofs.ShownLemmas.{told_none, told_some}
use Rattle.mc_inspect.specs.steps.Growings.{Grows, GrowsNot}
use Rattle.mc_inspect.proofs.Grown.{grown_not, growing_answer}
use Rattle.mc_inspect.proofs.growing.growing.Goals as goal

pub returns-in-Some : goal.returns-in-Some
returns-in-Some c =
    growing_answer c.args.m.now c.args.reading.now c.in-Some.func c.in-Some.index
    (subst (λ k. Grows k c.args.reading.now c.in-Some.func c.in-Some.index) c.module.ensures.same (told_some _ _ _ _ c.in-Some.is c.grown.ensures))
    c.whole.result c.whole.ensures

pub returns-in-None : goal.returns-in-None
returns-in-None c =
    grown_not c.args.m.now c.args.reading.now
    (subst (λ k. GrowsNot k c.args.reading.now) c.module.ensures.same (told_none _ _ _ c.in-None.is c.grown.ensures))
