use Rattle.std.proofs.Common.{ap, ◌∙◌, ◌+◌}
use Rattle.mc_cmd.specs.Pack.{counted}
use Rattle.mc_engine.specs.EngineView.{shown}
use Rattle.mc_together.specs.Together.{tick}
use Rattle.pk_multi.specs.State.{after, state_of}
use Rattle.pk_multi.proofs.StateLemmas.{failed_by, failed_in, ticked}
use Rattle.pk_multi.proofs.programs.Programs.share.Goals as goal

pub returns-in_err-run_all : goal.returns-in_err-run_all
returns-in_err-run_all c =
    let n = c.run_all.new.self in
    let s = state_of c.args.self.now in
    failed_by _ s (after s (tick c.args.budget)) (state_of n) _ (failed_in s (shown n.engine) n.programs.items n.ticks n.booted c.run_all.ensures.packs n.failed c.run_all.ensures.same.1 c.run_all.ensures.same.2) c.from_residual.ensures

pub returns : goal.returns
returns c =
    let n = c.run_all.new.self in (
      c.if-self.false,
      ticked (state_of c.args.self.now) (shown n.engine) n.programs.items n.ticks n.booted c.run_all.ensures.packs c.args.budget _ c.run_all.ensures.same.1 c.if-self.false
          c.in_ok-run_all.ensures.event (c.saturating_add-self.ensures ∙ ap (λ t. counted (t + 1)) c.run_all.ensures.same.0),
    )
