use Rattle.std.proofs.Common.{sym, subst, Result}
use Rattle.wm_valid.specs.declared.typed.Typed.{Typed}
use Rattle.app_top.specs.declared.refusal.Refusal.{Refusal}
use Rattle.app_top.specs.steps.JoinRun.{IsSourceTakenJoin}
use Rattle.app_top.proofs.JoinLemmas.{joined_taken, source_untaken}
use Rattle.app_top.proofs.ProgramLemmas.{err_is}
use Rattle.app_top.proofs.linking.joined_typed.Goals as goal

pub returns-in_err-module : goal.returns-in_err-module
returns-in_err-module c =
    subst (λ (r : Result Typed Refusal). IsSourceTakenJoin c.args.named.now c.args.main.now c.args.sources.now r)
    (sym (err_is c.from_residual.result c.in_err-module.field-0.0 c.from_residual.ensures))
    (source_untaken c.args.named.now c.args.main.now c.args.sources.now c.in_err-module.field-0.0 c.in_err-module.ensures)

pub returns : goal.returns
returns c =
    let j = c.in_ok-module.ensures in
    joined_taken c.args.named.now c.args.main.now c.args.sources.now j.0 c.in_ok-module.module c.accepted.result j.1 j.2 c.accepted.ensures.same c.accepted.ensures.told
