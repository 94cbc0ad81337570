use Rattle.std.proofs.Common.{◌≡◌}
use Rattle.wm_ast.specs.declared.item.Item.TheVariants.{Types}
use Rattle.wm_valid.specs.steps.Searching.{AllBefore}
use Rattle.wm_valid.proofs.item_check.first_type.Given as goal

abbrev pub invariant-loop-index : goal.invariant-loop-index
invariant-loop-index l = record { items : l.ty-items ≡ l.m.types; valid : AllBefore l.m Types l.index }
