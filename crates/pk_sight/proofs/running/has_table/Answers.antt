use Rattle.std.proofs.Common.{◌∙◌, ap, sym}
use Rattle.std.specs.Prelude.{option_map}
use Rattle.mc_nbt.specs.View.{view}
use Rattle.cc_line.specs.Table.{table_tree}
use Rattle.pk_sight.proofs.TableLemmas.{stands_there}
use Rattle.pk_sight.proofs.running.has_table.Goals as goal

pub returns-in-Some : goal.returns-in-Some
returns-in-Some c p s =
    stands_there (view c.in-Some.found.now) (table_tree c.args.table) _ c.is_table.result c.is_table.ensures
    (ap (option_map (λ t. view t.now)) (sym c.in-Some.is) ∙ c.in_ok-found.ensures.of_states p s c.requires)
