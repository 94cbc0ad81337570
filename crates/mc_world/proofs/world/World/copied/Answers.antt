use Rattle.std.proofs.Common.{◌∙◌, ap, Some}
use Rattle.mc_nbt.specs.View.{parts}
use Rattle.mc_world.specs.WorldView.{seen}
use Rattle.mc_world.specs.steps.Trees.{is_stored}
use Rattle.mc_world.proofs.SelectLemmas.{select_is_stored}
use Rattle.mc_world.proofs.world.World.copied.Goals as goal

pub returns-in_ok-copy-in-Some-clause-trees : goal.returns-in_ok-copy-in-Some-clause-trees
returns-in_ok-copy-in-Some-clause-trees c =
    ap is_stored (ap Some c.in_ok-copy-in-Some.ensures ∙ c.in-Some.ensures)
    ∙ select_is_stored (parts c.args.path.now) ((seen c.args.self.now).storages c.args.id.now) (c.args.self.now.trees c.args.id.now)
