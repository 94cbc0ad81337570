use Rattle.std.proofs.Common.{◌∙◌}
use Rattle.std.specs.Prelude.{slice_get}
use Rattle.mc_tick.specs.StateView.{resting_state}
use Rattle.mc_tick.proofs.PlayLemmas.{call_of}
use Rattle.mc_tick.proofs.resting.Resting.call.Goals as goal

pub returns-in_ok-call-in-None : goal.returns-in_ok-call-in-None
returns-in_ok-call-in-None c =
    let called = c.in_ok-call-in-None.ensures in
    let exports = (resting_state c.args.self).pack.index.exports in
    (call_of (slice_get exports c.args.export) c.args.args.now c.in-None.ensures.0 called.values, c.in-None.ensures.1, record { state = c.of.ensures.state ∙ called.call; told = c.of.ensures.told })
