use Rattle.std.proofs.Common.{◌≡◌, ℕ, ◌<◌, Some}
use Rattle.std.specs.Prelude.{slice_get, All}
use Rattle.wm_ast.specs.declared.module.Data.{Data}
use Rattle.wm_valid.specs.InRange.{IsByte}
use Rattle.wm_ast.specs.declared.item.Item.TheVariants.{Datas}
use Rattle.wm_valid.specs.steps.Searching.{AllBefore}
use Rattle.wm_valid.proofs.item_check.first_data.Given as goal

abbrev pub invariant-loop-index : goal.invariant-loop-index
invariant-loop-index l = record { items : l.data-items ≡ l.m.datas; valid : AllBefore l.m Datas l.index; range : (n : ℕ) → n < l.index → (e : Data) → slice_get l.m.datas n ≡ Some e → All IsByte e.bytes }
