use Rattle.std.proofs.Common.{◌≡◌, ℕ, Option, subst, sym}
use Rattle.cc_line.specs.Item.{join}
use Rattle.cc_line.specs.View.{items_view}
use Rattle.cc_init.specs.steps.Instantiating.{standing_acts}
use Rattle.cc_init.proofs.GlobalLemmas.{alone, no_acts}
use Rattle.cc_init.proofs.instantiation.push_standing.Goals as goal

pub returns-in-None : goal.returns-in-None
returns-in-None c =
    subst (λ (o : Option ℕ). items_view c.args.items.now.items ≡ join (items_view c.args.items.now.items) (alone (standing_acts o))) (sym c.in-None.is) (no_acts _)
