use Rattle.app_words.specs.Workload.{CallsMain}
use Rattle.mc_tick.specs.StateView.{resting_state, state_of}
use Rattle.app_workload.specs.steps.Playing.{EndsFrom, IsPlayedOut}
use Rattle.app_workload.proofs.PlayingLemmas.{ends_resting, if_ok}
use Rattle.app_workload.proofs.playing.play_out.Goals as goal

pub returns-in-Resting : goal.returns-in-Resting
returns-in-Resting c =
    let s = state_of c.args.booted in
    let q = resting_state c.in-Resting.resting in
    if_ok (IsPlayedOut q.pack (CallsMain q.pack q.standing)) (IsPlayedOut s.pack (EndsFrom s.pack s.standing)) c.call_main.result
    (λ t p. ends_resting s c.in_ok-working.field-0 c.in-Resting.resting t c.in-Resting.is c.in_ok-working.ensures p) c.call_main.ensures
