use Rattle.std.proofs.Common.{subst, sym}
use Rattle.wm_ast.specs.declared.item.Item.{Item}
use Rattle.wm_valid.specs.steps.Searching.{FirstOfKind}
use Rattle.wm_valid.proofs.item_check.first_of_kind.Goals as goal

pub returns-in-Datas-clause-first : goal.returns-in-Datas-clause-first
returns-in-Datas-clause-first c = subst (λ (k : Item). FirstOfKind c.args.m.now k c.first_data.result) (sym c.in-Datas.is) c.first_data.ensures.first
