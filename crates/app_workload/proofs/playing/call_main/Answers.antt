use Rattle.std.proofs.Common.{inr}
use Rattle.app_words.specs.Workload.{CallsMain, most_ticks, waited}
use Rattle.mc_tick.specs.StateView.{IsResumed, resting_state, state_of}
use Rattle.app_workload.specs.steps.Playing.{IsPlayedOut}
use Rattle.app_workload.proofs.PlayingLemmas.{call_left_out, call_made, if_ok}
use Rattle.app_workload.proofs.playing.call_main.Goals as goal

pub returns-in-Ok : goal.returns-in-Ok
returns-in-Ok c =
    let s = resting_state c.args.resting in
    let u = state_of c.in-Ok.state in
    if_ok (IsResumed (record u { standing = waited u.pack most_ticks u.standing })) (IsPlayedOut s.pack (CallsMain s.pack s.standing)) c.wait.result
    (λ t h. call_made s c.in-Ok.state t c.in-Ok.ensures h) c.wait.ensures

pub returns-in-Err-Dead : goal.returns-in-Err-Dead
returns-in-Err-Dead c =
    call_left_out (resting_state c.args.resting) c.in-Err-Dead.field-0 c.in-Err-Dead.state (inr (inr c.in-Err-Dead.field-0-is)) c.in-Err-Dead.ensures c.in-Err-Dead.state.rests
