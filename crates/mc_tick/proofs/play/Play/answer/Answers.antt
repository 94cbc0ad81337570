use Rattle.std.proofs.Common.{◌∙◌, ap}
use Rattle.mc_cmd.specs.Layout.{answer}
use Rattle.mc_engine.specs.EngineView.{shown}
use Rattle.mc_tick.proofs.play.Play.answer.Goals as goal

pub returns : goal.returns
returns c =
    let play = c.args.self.now in
    c.answer.ensures ∙ ap (answer play.names.ns) c.world.ensures ∙ ap (λ ns. answer ns (shown play.engine).world) play.named
