-- What is printed is of the world and the names of the play, which are those of the state.
use Rattle.std.proofs.Common.{rules, ◌≡◌, ◌∙◌, ap}
use Rattle.mc_world.specs.WorldView.{seen}
use Rattle.mc_tick.specs.State.{State}
use Rattle.mc_tick.specs.StateView.{state_of}
use Rattle.app_play.proofs.playing.printed_of.Goals as goal

pub returns : goal.returns
returns c =
    let world : seen c.world.result.now ≡ (state_of c.args.state.now).standing.world = c.world.ensures ∙ ap (λ (z : State). z.standing.world) c.play-played.ensures in
    let names : c.names.result.now.ns ≡ (state_of c.args.state.now).pack.index.ns = c.names.ensures ∙ ap (λ (z : State). z.pack.index.ns) c.play-played.ensures in
    search rules
