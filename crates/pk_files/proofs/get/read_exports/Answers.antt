use Rattle.std.proofs.Common.{◌∙◌, sym, ap, codes, Result}
use Rattle.std.specs.Prelude.{option_map}
use Rattle.mc_cmd.specs.Packing.{index_view}
use Rattle.mc_cmd.specs.declared.pack.Index.{Index}
use Rattle.pk_files.specs.Folder.{IsDone}
use Rattle.pk_files.specs.Held.{ReadsForm}
use Rattle.pk_files.specs.Json.{index_said}
use Rattle.pk_files.specs.declared.fault.GetFault.{GetFault}
use Rattle.pk_files.specs.declared.fault.GetFault.TheVariants as faults
use Rattle.pk_files.proofs.StepLemmas.{by_error, form_refused, form_said, form_unsaid}
use Rattle.pk_files.proofs.get.read_exports.Goals as goal

pub returns-in_err-bytes-clause-read : goal.returns-in_err-bytes-clause-read
returns-in_err-bytes-clause-read g c =
    let before = g.F.Files.state c.args.files.now in
    let after = g.F.Files.state c.bytes_at.new.files in
    by_error (λ (r : Result Index GetFault). IsDone index_view before after (λ content. ReadsForm content c.args.dir.now c.args.names.now (codes "dpwasm.json") faults.BadIndex index_said) r) _ c.in_err-bytes.field-0.0 c.from_residual-in_err-bytes.ensures
    (form_refused index_view before after c.args.dir.now c.args.names.now (codes "dpwasm.json") faults.BadIndex index_said c.in_ok-path.path c.in_err-bytes.field-0.0 (sym c.is_listed.ensures ∙ c.if-not-is_listed.false) c.in_ok-path.ensures c.in_err-bytes.ensures)

pub returns-in-Some-clause-read : goal.returns-in-Some-clause-read
returns-in-Some-clause-read g c =
    let before = g.F.Files.state c.args.files.now in
    let after = g.F.Files.state c.bytes_at.new.files in
    form_said index_view before after c.args.dir.now c.args.names.now (codes "dpwasm.json") faults.BadIndex index_said c.in_ok-path.path c.in_ok-bytes.bytes c.in-Some.index (sym c.is_listed.ensures ∙ c.if-not-is_listed.false) c.in_ok-path.ensures c.in_ok-bytes.ensures
    (ap index_said (sym c.as_slice.ensures) ∙ sym c.in_ok-index.ensures.said ∙ ap (option_map index_view) c.in-Some.is)

pub returns-clause-read : goal.returns-clause-read
returns-clause-read g c =
    let before = g.F.Files.state c.args.files.now in
    let after = g.F.Files.state c.bytes_at.new.files in
    form_unsaid index_view before after c.args.dir.now c.args.names.now (codes "dpwasm.json") faults.BadIndex index_said c.in_ok-path.path c.in_ok-bytes.bytes (sym c.is_listed.ensures ∙ c.if-not-is_listed.false) c.in_ok-path.ensures c.in_ok-bytes.ensures
    (ap index_said (sym c.as_slice.ensures) ∙ sym c.in_ok-index.ensures.said ∙ ap (option_map index_view) c.in-None.is) c.in_ok-bytes.ensures.1
