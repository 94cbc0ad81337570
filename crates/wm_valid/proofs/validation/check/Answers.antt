use Rattle.std.proofs.Common.{Result, Ok, Err, rules}
use Rattle.std.specs.Prelude.{IfOk}
use Rattle.wm_ast.specs.declared.item.Item.{Item}
use Rattle.wm_ast.specs.declared.item.Item.TheVariants.{Globals, Datas}
use Rattle.wm_valid.specs.InRange.{HasNumbersInRange}
use Rattle.wm_valid.specs.steps.Searching.{KindInRange}
use Rattle.wm_valid.proofs.validation.check.Goals as goal

-- what holds anyway holds where there is a value
if_ok : {A E : Type 0} (P : Type 0) (r : Result A E) → P → IfOk r (λ (a : A). P)
if_ok P (Ok a) h = h
if_ok P (Err e) h = tt

pub returns-in-Ok-clause-numbers : goal.returns-in-Ok-clause-numbers
returns-in-Ok-clause-numbers c =
    let kinds : (kind : Item) → KindInRange c.args.m.now kind = search rules in
    if_ok (HasNumbersInRange c.args.m.now) c.heights.result (record { functions = c.in-Ok.ensures.range; globals = kinds Globals; datas = kinds Datas })
