use Rattle.std.proofs.Common.{◌≡◌}
use Rattle.wm_ast.specs.declared.item.Item.TheVariants.{Memories}
use Rattle.wm_valid.specs.steps.Searching.{AllBefore}
use Rattle.wm_valid.proofs.item_check.first_memory.Given as goal

abbrev pub invariant-loop-index : goal.invariant-loop-index
invariant-loop-index l = record { items : l.limits-items ≡ l.m.mems; valid : AllBefore l.m Memories l.index }
