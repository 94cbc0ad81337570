use Rattle.std.proofs.Common.{sym, subst}
use Rattle.mc_nbt.specs.declared.value.Value.{Value}
use Rattle.std.proofs.Common.{List}
use Rattle.wm_flat.specs.Program.{IsProgram}
use Rattle.wm_reduce.specs.declared.task.Task.TheVariants.{Calling}
use Rattle.wm_reduce.specs.TermView.{store_of}
use Rattle.wm_reduce.specs.steps.Task.{Keeps}
use Rattle.wm_reduce.proofs.CallLaws.{is_program, start_kept, rest_kept}
use Rattle.wm_reduce.proofs.FitLaws.{fits}
use Rattle.wm_reduce.proofs.reduction.Reduction.start.Goals as goal

pub first_storage-requires : goal.first_storage-requires
first_storage-requires c =
    let p : IsProgram c.module-m.result.now = subst IsProgram (sym c.module-m.ensures.same) (is_program c.args.typed.now c.module-m.ensures.typed) in
    fits c.module-m.result.now p

pub invariant_of-result : goal.invariant_of-result
invariant_of-result c =
    let p : IsProgram c.module-m.result.now = subst IsProgram (sym c.module-m.ensures.same) (is_program c.args.typed.now c.module-m.ensures.typed) in
    record { program = ∣ p ∣₁; kept = rest_kept c.module-m.result.now (store_of c.in_ok-storage.storage) _ p c.in_ok-storage.ensures }

pub invariant_of-result-in-Some : goal.invariant_of-result-in-Some
invariant_of-result-in-Some c =
    let p : IsProgram c.module-m.result.now = subst IsProgram (sym c.module-m.ensures.same) (is_program c.args.typed.now c.module-m.ensures.typed) in
    record {
      program = ∣ p ∣₁;
      kept = subst (λ (l : List Value). Keeps c.module-m.result.now (store_of c.in_ok-storage.storage) (Calling c.in-Some.func l)) (sym c.new.ensures)
          (start_kept c.module-m.result.now (store_of c.in_ok-storage.storage) c.in-Some.func p c.in_ok-storage.ensures c.in-Some.is);
    }
