use Rattle.std.proofs.Common.{◌∙◌, ap, rules}
use Rattle.std.specs.Prelude.{option_map}
use Rattle.std.specs.Int.{w32}
use Rattle.std.proofs.lemmas.Int.{to_z-of_z}
use mir.Val.{SFits}
use Rattle.mc_cmd.specs.World.{gives, got, number_of}
use Rattle.mc_world.specs.WorldView.{seen}
use Rattle.mc_world.proofs.world.World.data_get.Goals as goal

pub returns-in-Some : goal.returns-in-Some
returns-in-Some c =
    let w = seen c.args.self.now in
    let fits : SFits w32 c.number_of.result = search rules in
    c.given.ensures w ∙ ap (gives w) (to_z-of_z w32 c.number_of.result fits ∙ c.number_of.ensures) ∙ ap (λ o. got w (option_map number_of o)) c.in-Some.ensures

pub returns-in-None : goal.returns-in-None
returns-in-None c =
    let w = seen c.args.self.now in
    c.failed.ensures w ∙ ap (λ o. got w (option_map number_of o)) c.in-None.ensures
