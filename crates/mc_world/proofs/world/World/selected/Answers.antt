use Rattle.std.proofs.Common.{◌∙◌, sym, ap}
use Rattle.std.specs.Prelude.{unwrap_or}
use Rattle.mc_nbt.specs.Tree.{compound, no_fields, select}
use Rattle.mc_nbt.specs.View.{parts}
use Rattle.mc_world.proofs.SelectLemmas.{nothing_selected}
use Rattle.mc_world.proofs.world.World.selected.Goals as goal

pub returns-in-None : goal.returns-in-None
returns-in-None c =
    let ps = parts c.args.path.now in
    sym (ap (λ o. select (unwrap_or o (compound no_fields)) ps) (sym c.in-None.ensures.storage) ∙ nothing_selected ps c.parts-parts.ensures.path)
