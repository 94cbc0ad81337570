use Rattle.std.proofs.Common.{sym, subst, Result}
use Rattle.wm_decode.proofs.DecodeLaws.{same_module}
use Rattle.wm_gen.specs.Workload.{workload}
use Rattle.app_top.specs.declared.refusal.Refusal.{Refusal}
use Rattle.app_top.specs.declared.workload.Made.{Made}
use Rattle.app_top.specs.steps.WorkloadRun.{IsMade}
use Rattle.app_top.proofs.ProgramLemmas.{err_is}
use Rattle.app_top.proofs.WorkloadEnds.{memory_alone}
use Rattle.app_top.proofs.WorkloadLemmas.{has_workload}
use Rattle.app_top.proofs.workload.make.Goals as goal

pub returns-in_err-typed : goal.returns-in_err-typed
returns-in_err-typed c =
    subst (λ (r : Result Made Refusal). IsMade c.args.number c.args.size r) (sym (err_is c.from_residual-in_err-typed.result c.in_err-typed.field-0.0 c.from_residual-in_err-typed.ensures))
    (memory_alone c.in_ok-wasm.wasm (workload c.args.number c.args.size) c.in_err-typed.field-0.0 (has_workload c.in_ok-wasm.wasm c.args.number c.args.size c.requires.most c.in_ok-wasm.ensures.spells) (rw c.as_slice.ensures at c.in_err-typed.ensures))

pub returns : goal.returns
returns c =
    let taken = rw c.as_slice.ensures at c.in_ok-typed.ensures in
    (c.in_ok-wasm.ensures.shortest, same_module c.in_ok-wasm.wasm c.in_ok-typed.typed (workload c.args.number c.args.size) taken.spells c.in_ok-wasm.ensures.spells)
