use Rattle.std.proofs.Common.{ℕ, refl, subst, inl, inr, length}
use Rattle.mc_cmd.specs.Packing.{pack_view}
use Rattle.app_workload.specs.Told.{IsWorkloadText}
use Rattle.app_top.specs.declared.refusal.Refusal.TheVariants as refusals
use Rattle.app_top.proofs.ProgramLemmas.{err_is}
use Rattle.app_top.proofs.workload.tell_workload.Goals as goal

pub returns-in_err-lines : goal.returns-in_err-lines
returns-in_err-lines g c =
    inr (c.in_ok-pack.pack, c.in_ok-pack.ensures, inl (err_is c.from_residual-in_err-lines.result refusals.Memory c.from_residual-in_err-lines.ensures, refl))

pub returns : goal.returns
returns g c =
    let typed = c.args.made.now.typed in
    let told = subst (λ (n : ℕ). IsWorkloadText n (length typed.funcs) typed (pack_view c.in_ok-pack.pack) c.in_ok-lines.lines) c.len.ensures c.in_ok-lines.ensures in
    inr (c.in_ok-pack.pack, c.in_ok-pack.ensures, inr (c.in_ok-lines.lines, told, c.say.ensures))
