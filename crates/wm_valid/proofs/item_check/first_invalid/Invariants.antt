use Rattle.std.proofs.Common.{◌≡◌, ℕ, ◌<◌}
use Rattle.wm_ast.specs.declared.item.Item.{Item}
use Rattle.wm_valid.specs.Valid.{IsValid, rank}
use Rattle.wm_valid.specs.steps.Searching.{KindInRange}
use Rattle.wm_valid.specs.declared.item_check.TheConstants.{ORDER}
use Rattle.wm_valid.proofs.item_check.first_invalid.Given as goal

abbrev pub invariant-loop-kind : goal.invariant-loop-kind
invariant-loop-kind l = record {
  kinds : l.kind-items ≡ ORDER;
  valid : (kind : Item) (n : ℕ) → rank kind < l.kind-index → IsValid l.m kind n;
  range : (kind : Item) → rank kind < l.kind-index → KindInRange l.m kind;
}
