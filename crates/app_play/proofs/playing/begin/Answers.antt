use Rattle.mc_tick.specs.StateView.{resting_state}
use Rattle.app_play.proofs.PlayLemmas.{made_call, made_refused}
use Rattle.app_play.proofs.playing.begin.Goals as goal

pub returns-in-Ok : goal.returns-in-Ok
returns-in-Ok c =
    made_call (resting_state c.args.resting) c.args.place c.args.values.now c.in-Ok.state c.args.line c.in-Ok.ensures.1 c.in-Ok.ensures.2

pub returns-in-Err-Dead : goal.returns-in-Err-Dead
returns-in-Err-Dead c =
    rw c.refused.ensures
    (made_refused (resting_state c.args.resting) c.args.place c.args.values.now c.in-Err-Dead.field-0 c.in-Err-Dead.state c.args.line c.in-Err-Dead.field-0-is c.in-Err-Dead.ensures)
