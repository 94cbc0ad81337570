use Rattle.std.proofs.Common.{◌≡◌, ◌∙◌, sym, ap, None, rules}
use Rattle.std.specs.Prelude.{option_and_then}
use Rattle.mc_nbt.specs.Tree.{select}
use Rattle.mc_nbt.specs.View.{parts}
use Rattle.mc_cmd.specs.World.{stored, tree_in}
use Rattle.mc_world.specs.WorldView.{seen}
use Rattle.mc_world.specs.steps.Changing.{put_so}
use Rattle.mc_world.proofs.world.World.put_from.Goals as goal

pub returns-in-None-clause-effect : goal.returns-in-None-clause-effect
returns-in-None-clause-effect c =
    let w = seen c.args.self.now in
    let i = c.args.id.now in
    let none : select (tree_in w c.args.from_id.now) (parts c.args.from_path.now) ≡ None = search rules in
    c.failed.ensures w ∙ sym (ap (λ o. stored w i (option_and_then (put_so c.args.way (tree_in w i) (parts c.args.path.now)) o)) none)
