use Rattle.std.proofs.Common.{◌≡◌, ℕ, ◌<◌, Some}
use Rattle.std.specs.Prelude.{slice_get}
use Rattle.wm_ast.specs.declared.module.Global.{Global}
use Rattle.wm_ast.specs.Profile.{global_code}
use Rattle.wm_valid.specs.InRange.{CodeInRange}
use Rattle.wm_ast.specs.declared.item.Item.TheVariants.{Globals}
use Rattle.wm_valid.specs.steps.Searching.{AllBefore}
use Rattle.wm_valid.proofs.item_check.first_global.Given as goal

abbrev pub invariant-loop-index : goal.invariant-loop-index
invariant-loop-index l = record { items : l.global-items ≡ l.m.globals; valid : AllBefore l.m Globals l.index; range : (n : ℕ) → n < l.index → (e : Global) → slice_get l.m.globals n ≡ Some e → CodeInRange (global_code e) }
