use Rattle.std.proofs.Common.{◌∙◌, sym, ap, rules}
use Rattle.std.specs.Int.{w32}
use Rattle.std.proofs.lemmas.Int.{to_z-of_z}
use mir.Val.{SFits}
use Rattle.mc_cmd.specs.World.{effect, gives}
use Rattle.mc_cmd.specs.View.{simple_view}
use Rattle.mc_world.specs.WorldView.{seen}
use Rattle.mc_world.proofs.world.World.run.Goals as goal

pub returns-in-ChainLength-clause-effect : goal.returns-in-ChainLength-clause-effect
returns-in-ChainLength-clause-effect c =
    let w = seen c.args.self.now in
    let fits : SFits w32 w.rule = search rules in
    c.given.ensures w ∙ ap (gives w) (to_z-of_z w32 w.rule fits) ∙ sym (ap (λ s. effect (simple_view s) w) c.in-ChainLength.is)
