use Rattle.std.proofs.Common.{◌∙◌, ap, sym}
use Rattle.std.specs.Prelude.{option_map}
use Rattle.mc_nbt.specs.View.{view}
use Rattle.pk_sight.proofs.ShownLemmas.{same_tree}
use Rattle.pk_sight.proofs.running.has_tree.Goals as goal

pub returns-in-Some : goal.returns-in-Some
returns-in-Some c p s =
    same_tree (view c.in-Some.found.now) (view c.args.wanted.now) _ c.is_same.result c.is_same.ensures
    (ap (option_map (λ t. view t.now)) (sym c.in-Some.is) ∙ c.in_ok-found.ensures.of_states p s c.requires)
