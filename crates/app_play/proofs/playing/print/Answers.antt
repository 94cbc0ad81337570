use Rattle.std.proofs.Common.{sym, subst, Result}
use Rattle.app_words.specs.View.{act_view}
use Rattle.mc_tick.specs.StateView.{state_of}
use Rattle.app_play.specs.declared.fault.PlayFault.{PlayFault}
use Rattle.app_play.specs.declared.fault.PlayFault.TheVariants as faults
use Rattle.app_play.specs.steps.Playing.{IsSaid, printed}
use Rattle.app_play.proofs.PlayLemmas.{err_is, nothing_appended}
use Rattle.app_play.proofs.playing.print.Goals as goal

pub returns-in_err-text : goal.returns-in_err-text
returns-in_err-text g c =
    let out = g.O.Sink.state c.args.out.now in
    let s = state_of c.args.state.now in
    let t = printed s.pack.index.ns s.standing.world (act_view c.args.act.now) in
    subst (λ (r : Result (Unit {0}) PlayFault). IsSaid t out out r) (sym (err_is c.from_residual.result faults.Memory c.from_residual.ensures)) (nothing_appended out t)
