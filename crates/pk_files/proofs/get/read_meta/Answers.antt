use Rattle.std.proofs.Common.{◌∙◌, sym, codes, Result}
use Rattle.pk_files.specs.Folder.{IsDone}
use Rattle.pk_files.specs.Held.{ReadsForm}
use Rattle.pk_files.specs.Json.{meta_said}
use Rattle.pk_files.specs.declared.fault.GetFault.{GetFault}
use Rattle.pk_files.specs.declared.fault.GetFault.TheVariants as faults
use Rattle.pk_files.specs.steps.Reading.{itself}
use Rattle.pk_files.proofs.StepLemmas.{by_error, form_refused}
use Rattle.pk_files.proofs.get.read_meta.Goals as goal

pub returns-in_err-bytes : goal.returns-in_err-bytes
returns-in_err-bytes g c =
    let before = g.F.Files.state c.args.files.now in
    let after = g.F.Files.state c.bytes_at.new.files in
    by_error (λ (r : Result (Unit {0}) GetFault). IsDone itself before after (λ content. ReadsForm content c.args.dir.now c.args.names.now (codes "pack.mcmeta") faults.NoMeta meta_said) r) _ c.in_err-bytes.field-0.0 c.from_residual-in_err-bytes.ensures
    (form_refused itself before after c.args.dir.now c.args.names.now (codes "pack.mcmeta") faults.NoMeta meta_said c.in_ok-path.path c.in_err-bytes.field-0.0 (sym c.is_listed.ensures ∙ c.if-not-is_listed.false) c.in_ok-path.ensures c.in_err-bytes.ensures)
