use Rattle.std.proofs.Common.{Err, subst}
use Rattle.mc_nbt.specs.View.{view}
use Rattle.mc_nbt.specs.ReadView.{ReadsTree}
use Rattle.mc_nbt.specs.declared.fault.SnbtFault.TheVariants as faults
use Rattle.mc_parse.proofs.ValueLemmas.{value_some, value_not_spelled, value_deep}
use Rattle.mc_parse.proofs.words.read_value.Goals as goal

pub returns-in-Ok : goal.returns-in-Ok
returns-in-Ok c = value_some c.args.w.now (view c.in-Ok.tree) c.in-Ok.ensures.0 c.in-Ok.ensures.1

pub returns-in-Err-Syntax : goal.returns-in-Err-Syntax
returns-in-Err-Syntax c =
    let said : ReadsTree c.args.w.now (Err (faults.Syntax c.in-Err-Syntax.field-0-0)) = subst (λ e. ReadsTree c.args.w.now (Err e)) c.in-Err-Syntax.field-0-is c.in-Err-Syntax.ensures in
    value_not_spelled c.args.w.now said.1

pub returns-in-Err-Depth : goal.returns-in-Err-Depth
returns-in-Err-Depth c =
    let said : ReadsTree c.args.w.now (Err faults.Depth) = subst (λ e. ReadsTree c.args.w.now (Err e)) c.in-Err-Depth.field-0-is c.in-Err-Depth.ensures in
    value_deep c.args.w.now said
