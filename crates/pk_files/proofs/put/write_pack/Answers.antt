use Rattle.std.proofs.Common.{sym, subst, [], Result}
use Rattle.io_dev.specs.Files.{FilesState}
use Rattle.io_dev.specs.Names.{IsListingOf}
use Rattle.pk_files.specs.Folder.{IsPackWritten}
use Rattle.pk_files.specs.declared.fault.PutFault.{PutFault}
use Rattle.pk_files.proofs.PutLemmas.{unseen}
use Rattle.pk_files.proofs.StepLemmas.{by_error}
use Rattle.pk_files.proofs.put.write_pack.Goals as goal

pub returns-in_err-see_empty : goal.returns-in_err-see_empty
returns-in_err-see_empty g c =
    let before = g.F.Files.state c.args.files.now in
    let after = g.F.Files.state c.see_empty.new.files in
    by_error (λ (r : Result (Unit {0}) PutFault). IsPackWritten before after c.args.dir.now c.args.pack.now r) _ c.in_err-see_empty.field-0.0 c.from_residual.ensures
    (unseen before after c.args.dir.now c.args.pack.now c.in_err-see_empty.field-0.0 c.in_err-see_empty.ensures)

pub put_pack-requires : goal.put_pack-requires
put_pack-requires g c =
    subst (λ (s : FilesState). IsListingOf s.content c.args.dir.now []) (sym c.in_ok-see_empty.ensures.1) c.in_ok-see_empty.ensures.0

pub returns : goal.returns
returns g c =
    let after = g.F.Files.state c.put_pack.new.files in
    subst (λ (s : FilesState). IsPackWritten s after c.args.dir.now c.args.pack.now c.put_pack.result) c.in_ok-see_empty.ensures.1 c.put_pack.ensures
