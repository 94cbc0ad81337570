use Rattle.std.proofs.Common.{◌≡◌, sym, ◌∙◌, arith}
use Rattle.std.proofs.lemmas.Grind.{common_steps}
use Rattle.mc_nbt.specs.Tree.{int}
use Rattle.mc_nbt.specs.View.{view}
use Rattle.pk_sight.proofs.IntLemmas.{int_told, not_ints}
use Rattle.pk_sight.proofs.ints.ints_of_trees.Goals as goal

pub returns-in-None : goal.returns-in-None
returns-in-None c zs e =
    not_ints c.args.trees.now zs c.loop-tree.tree-index c.tree-item.result (omega arith) c.tree-item.is (sym c.int_of.ensures ∙ c.in-None.is) e

pub loop-tree-preserved : goal.loop-tree-preserved
loop-tree-preserved c =
    let e : view c.tree-item.result ≡ int c.in-Some.z = int_told _ _ (sym c.int_of.ensures ∙ c.in-Some.is) in
    grind (arith, common_steps)
