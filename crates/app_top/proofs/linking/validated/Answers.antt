use Rattle.std.proofs.Common.{sym, subst, Err}
use Rattle.wm_ast.specs.declared.module.Module.{Module}
use Rattle.wm_valid.specs.declared.valid_fault.ValidFault.{ValidFault}
use Rattle.wm_valid.specs.declared.valid_fault.ValidFault.TheVariants as valids
use Rattle.wm_valid.specs.ValidFault.{IsCause}
use Rattle.app_top.specs.declared.refusal.Refusal.{Refusal}
use Rattle.app_top.specs.steps.RefusalOf.{of_valid}
use Rattle.app_top.specs.steps.Run.{IsAccepted}
use Rattle.app_top.proofs.linking.validated.Goals as goal

-- a module that is refused for a cause
not_accepted : (m : Module) (fault : ValidFault) → IsCause fault m → IsAccepted m (Err (of_valid fault))
not_accepted m valids.Memory h = tt
not_accepted m (valids.Item kind index) h = h
not_accepted m (valids.Body n) h = h
not_accepted m (valids.Height n found) h = h

pub returns-clause-told : goal.returns-clause-told
returns-clause-told c =
    let answer = rw c.in-Err.is at c.validate.ensures.answer in
    subst (λ (r : Refusal). IsAccepted c.args.m (Err r)) (sym c.into.ensures) (not_accepted c.args.m c.in-Err.fault answer.1)
