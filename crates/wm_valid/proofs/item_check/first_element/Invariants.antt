use Rattle.std.proofs.Common.{◌≡◌}
use Rattle.wm_ast.specs.declared.item.Item.TheVariants.{Elements}
use Rattle.wm_valid.specs.steps.Searching.{AllBefore}
use Rattle.wm_valid.proofs.item_check.first_element.Given as goal

abbrev pub invariant-loop-index : goal.invariant-loop-index
invariant-loop-index l = record { items : l.elem-items ≡ l.m.elems; valid : AllBefore l.m Elements l.index }
