use Rattle.std.proofs.Common.{sym, subst, Err}
use Rattle.app_words.specs.Report.{answer_of, called}
use Rattle.mc_tick.specs.StateView.{resting_state, state_of, working_state}
use Rattle.mc_tick.specs.declared.resumed.Resumed.{Resumed}
use Rattle.app_play.specs.steps.Playing.{IsStep}
use Rattle.app_play.proofs.PlayLemmas.{busy_stopped, resting_step}
use Rattle.app_play.proofs.playing.call.Goals as goal

pub returns-in-Err : goal.returns-in-Err
returns-in-Err g c =
    let before = g.O.Sink.state c.args.out.now in
    let after = g.O.Sink.state c.leave_out.new.out in
    subst (λ (r : Resumed). IsStep (state_of r) (called (state_of r).pack (state_of r).standing c.args.name.now c.args.args.now (answer_of (state_of r).pack (state_of r).standing)) c.args.line (Err c.in-Err.fault) before after)
    (sym c.in-Working.is)
    (busy_stopped (working_state c.in-Working.working) c.args.name.now c.args.args.now c.args.line c.in-Err.fault before after c.in-Working.working.works c.in-Err.ensures)

pub returns-in-Resting : goal.returns-in-Resting
returns-in-Resting g c =
    let out = g.O.Sink.state c.args.out.now in
    subst (λ (r : Resumed). IsStep (state_of r) (called (state_of r).pack (state_of r).standing c.args.name.now c.args.args.now (answer_of (state_of r).pack (state_of r).standing)) c.args.line c.start.result out out)
    (sym c.in-Resting.is)
    (resting_step (resting_state c.in-Resting.resting) c.args.name.now c.args.args.now c.args.line c.start.result out c.in-Resting.resting.rests c.start.ensures)
