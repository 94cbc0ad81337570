use Rattle.mc_engine.specs.EngineView.{shown}
use Rattle.mc_together.specs.Together.{reload}
use Rattle.pk_multi.specs.State.{after, state_of}
use Rattle.pk_multi.proofs.StateLemmas.{failed_by, failed_in, happened}
use Rattle.pk_multi.proofs.programs.Programs.reload.Goals as goal

pub returns-in_err-run_all : goal.returns-in_err-run_all
returns-in_err-run_all c =
    let n = c.run_all.new.self in
    let s = state_of c.args.self.now in
    failed_by _ s (after s (reload c.args.budget)) (state_of n) _ (failed_in s (shown n.engine) n.programs.items n.ticks n.booted c.run_all.ensures.packs n.failed c.run_all.ensures.same.1 c.run_all.ensures.same.2) c.from_residual.ensures

pub returns : goal.returns
returns c =
    let n = c.run_all.new.self in
    (c.if-self.false, happened (state_of c.args.self.now) (shown n.engine) n.programs.items n.ticks n.booted c.run_all.ensures.packs (reload c.args.budget) c.run_all.ensures.same.1 c.if-self.false c.in_ok-run_all.ensures.event)
