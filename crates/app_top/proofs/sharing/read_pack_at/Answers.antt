use Rattle.std.proofs.Common.{sym, subst, refl, Result, inl}
use Rattle.mc_cmd.specs.Packing.{Written}
use Rattle.pk_files.specs.declared.fault.GetFault.TheVariants as gets
use Rattle.app_top.specs.declared.refusal.Refusal.{Refusal}
use Rattle.app_top.specs.declared.refusal.Refusal.TheVariants as refusals
use Rattle.app_top.specs.steps.ShareRun.{IsPackReadAt}
use Rattle.app_top.proofs.ProgramLemmas.{err_is}
use Rattle.app_top.proofs.sharing.read_pack_at.Goals as goal

pub returns-in_err-path : goal.returns-in_err-path
returns-in_err-path g c =
    let before = g.F.Files.state c.args.files.now in
    subst (λ (r : Result Written Refusal). IsPackReadAt before before c.args.dir.now r)
    (sym (err_is c.from_residual.result refusals.Memory c.from_residual.ensures))
    (gets.Memory, (inl refl, refl), refl)
