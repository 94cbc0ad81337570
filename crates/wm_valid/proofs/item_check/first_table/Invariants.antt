use Rattle.std.proofs.Common.{◌≡◌}
use Rattle.wm_ast.specs.declared.item.Item.TheVariants.{Tables}
use Rattle.wm_valid.specs.steps.Searching.{AllBefore}
use Rattle.wm_valid.proofs.item_check.first_table.Given as goal

abbrev pub invariant-loop-index : goal.invariant-loop-index
invariant-loop-index l = record { items : l.limits-items ≡ l.m.tables; valid : AllBefore l.m Tables l.index }
