use Rattle.std.proofs.Common.{Result, Err}
use Rattle.mc_cmd.specs.Packing.{index_view}
use Rattle.mc_cmd.specs.declared.pack.Index.{Index}
use Rattle.pk_files.specs.Folder.{IsDone}
use Rattle.pk_files.specs.Held.{ReadsIndex}
use Rattle.pk_files.specs.declared.fault.GetFault.{GetFault}
use Rattle.pk_files.proofs.ReadLemmas.{index_meta, index_exports}
use Rattle.pk_files.proofs.StepLemmas.{by_error}
use Rattle.pk_files.proofs.get.read_index.Goals as goal

pub returns-in_err-read_meta-clause-read : goal.returns-in_err-read_meta-clause-read
returns-in_err-read_meta-clause-read g c =
    let before = g.F.Files.state c.args.files.now in
    let one = g.F.Files.state c.names_in.new.files in
    let after = g.F.Files.state c.read_meta.new.files in
    by_error (λ (r : Result Index GetFault). IsDone index_view before after (λ content. ReadsIndex content c.args.dir.now) r) _ c.in_err-read_meta.field-0.0 c.from_residual-in_err-read_meta.ensures
    (index_meta before one after c.args.dir.now c.in_ok-names.names c.in_err-read_meta.field-0.0 c.in_ok-names.ensures c.in_err-read_meta.ensures)

pub returns-in_err-index-clause-read : goal.returns-in_err-index-clause-read
returns-in_err-index-clause-read g c =
    let before = g.F.Files.state c.args.files.now in
    let one = g.F.Files.state c.names_in.new.files in
    let two = g.F.Files.state c.read_meta.new.files in
    let after = g.F.Files.state c.read_exports.new.files in
    by_error (λ (r : Result Index GetFault). IsDone index_view before after (λ content. ReadsIndex content c.args.dir.now) r) _ c.in_err-index.field-0.0 c.from_residual-in_err-index.ensures
    (index_exports before one two after c.args.dir.now c.in_ok-names.names (Err c.in_err-index.field-0.0) c.in_ok-names.ensures c.in_ok-read_meta.ensures c.in_err-index.ensures.read)
