use Rattle.std.proofs.Common.{◌≡◌, Some, ap, ◌∙◌}
use Rattle.std.specs.Prelude.{option_map}
use Rattle.mc_nbt.specs.View.{view}
use Rattle.mc_world.specs.NamedMap.{name_get}
use Rattle.mc_world.specs.steps.Trees.{is_stored}
use Rattle.mc_world.proofs.NamedMapLemmas.{under}
use Rattle.mc_world.proofs.world.World.storage.Goals as goal

pub returns-in_ok-place-in-None-clause-tree : goal.returns-in_ok-place-in-None-clause-tree
returns-in_ok-place-in-None-clause-tree c =
    let m = c.args.self.now.storages in
    let found : Some c.in_ok-place-in-None.tree.now ≡ name_get m c.args.id.now = c.in_ok-place-in-None.ensures.value ∙ ap (under m.entries) c.as_str.ensures in
    ap (λ o. is_stored (option_map view o)) found ∙ c.args.self.now.trees c.args.id.now
