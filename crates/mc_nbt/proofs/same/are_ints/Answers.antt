use Rattle.std.proofs.Common.{sym, ◌∙◌, map}
use Rattle.std.proofs.lemmas.List.{length-map}
use Rattle.mc_nbt.specs.Tree.{int}
use Rattle.mc_nbt.specs.View.{view}
use Rattle.mc_nbt.proofs.SameLemmas.{items_differ}
use Rattle.mc_nbt.proofs.same.are_ints.Goals as goal

pub returns-then-trees-ints : goal.returns-then-trees-ints
returns-then-trees-ints c = items_differ (map view c.args.trees.now) (map int c.args.ints.now) (λ e. c.if-trees-ints.true (sym (length-map _ _) ∙ e ∙ length-map _ _))
