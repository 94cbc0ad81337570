-- What is told is of the world and the names of the play, which are those of the state.
use Rattle.std.proofs.Common.{◌≡◌, ◌∙◌, ap, inl, inr, refl, subst}
use Rattle.mc_cmd.specs.Form.{Text}
use Rattle.mc_cmd.specs.World.{World}
use Rattle.mc_world.specs.WorldView.{seen}
use Rattle.mc_tick.specs.State.{State}
use Rattle.mc_tick.specs.StateView.{state_of}
use Rattle.app_play.specs.declared.fault.PlayFault.TheVariants as faults
use Rattle.app_play.specs.steps.Playing.{IsSaid}
use Rattle.app_play.proofs.PlayLemmas.{err_is}
use Rattle.app_play.proofs.playing.locate.Goals as goal

pub returns-in_err-text : goal.returns-in_err-text
returns-in_err-text g c = inl (err_is c.from_residual.result faults.Memory c.from_residual.ensures, refl)

pub returns : goal.returns
returns g c =
    let s = state_of c.args.state.now in
    let world : seen c.world.result.now ≡ s.standing.world = c.world.ensures ∙ ap (λ (z : State). z.standing.world) c.play-played.ensures in
    let names : c.names.result.now.ns ≡ s.pack.index.ns = c.names.ensures ∙ ap (λ (z : State). z.pack.index.ns) c.play-played.ensures in
    let May = g.L.Locator.may_tell c.args.locator.now in
    let told = subst (λ (n : Text). May n (seen c.world.result.now) c.in_ok-text.text) names c.in_ok-text.ensures in
    let before = g.O.Sink.state c.args.out.now in
    let after = g.O.Sink.state c.say.new.out in
    inr (
      c.in_ok-text.text,
      subst (λ (w : World). May s.pack.index.ns w c.in_ok-text.text) world told,
      subst (λ (t : Text). IsSaid t before after c.say.result) c.as_str.ensures c.say.ensures,
    )
