use Rattle.std.proofs.Common.{◌≡◌}
use Rattle.wm_ast.specs.declared.item.Item.TheVariants.{Exports}
use Rattle.wm_valid.specs.steps.Searching.{AllBefore}
use Rattle.wm_valid.specs.steps.Names.{NamesBefore}
use Rattle.wm_valid.proofs.item_check.first_export.Given as goal

abbrev pub invariant-loop-index : goal.invariant-loop-index
invariant-loop-index l = record { items : l.export-items ≡ l.m.exports; valid : AllBefore l.m Exports l.index; names : NamesBefore l.m.exports l.index l.names }
