use Rattle.std.proofs.Common.{map, Result, Ok, Err}
use Rattle.pk_files.specs.Folder.{IsPackWritten}
use Rattle.pk_files.specs.declared.fault.PutFault.{PutFault}
use Rattle.pk_files.specs.steps.Writing.{file_view}
use Rattle.pk_files.proofs.PutLemmas.{begun, pack_done, pack_stopped}
use Rattle.pk_files.proofs.StepLemmas.{by_error}
use Rattle.pk_files.proofs.put.put_pack.Goals as goal

pub returns-in_err-write_functions : goal.returns-in_err-write_functions
returns-in_err-write_functions g c =
    let before = g.F.Files.state c.args.files.now in
    let after = g.F.Files.state c.write_functions.new.files in
    pack_stopped before after c.args.dir.now c.in_ok-folder.folder c.args.pack.now c.index-index.result.now c.in_err-write_functions.field-0.0 _
    (begun before c.args.dir.now c.args.pack.now c.index-index.result.now c.requires c.index-index.ensures.index c.in_ok-last.ensures.read_back)
    c.index-index.ensures.index c.in_ok-folder.ensures c.in_err-write_functions.ensures c.from_residual-in_err-write_functions.ensures

pub returns-in_err-write_all : goal.returns-in_err-write_all
returns-in_err-write_all g c =
    let before = g.F.Files.state c.args.files.now in
    let two = g.F.Files.state c.write_functions.new.files in
    let after = g.F.Files.state c.write_all.new.files in
    by_error (λ (r : Result (Unit {0}) PutFault). IsPackWritten before after c.args.dir.now c.args.pack.now r) _ c.in_err-write_all.field-0.0 c.from_residual-in_err-write_all.ensures
    (pack_done before two after c.args.dir.now c.in_ok-folder.folder c.args.pack.now c.index-index.result.now (map file_view c.in_ok-last.last) (Err c.in_err-write_all.field-0.0)
    (begun before c.args.dir.now c.args.pack.now c.index-index.result.now c.requires c.index-index.ensures.index c.in_ok-last.ensures.read_back)
    c.index-index.ensures.index c.in_ok-folder.ensures c.in_ok-write_functions.ensures c.in_ok-last.ensures.files c.in_err-write_all.ensures)

pub returns : goal.returns
returns g c =
    let before = g.F.Files.state c.args.files.now in
    let two = g.F.Files.state c.write_functions.new.files in
    let after = g.F.Files.state c.write_all.new.files in
    pack_done before two after c.args.dir.now c.in_ok-folder.folder c.args.pack.now c.index-index.result.now (map file_view c.in_ok-last.last) (Ok (tt {0}))
    (begun before c.args.dir.now c.args.pack.now c.index-index.result.now c.requires c.index-index.ensures.index c.in_ok-last.ensures.read_back)
    c.index-index.ensures.index c.in_ok-folder.ensures c.in_ok-write_functions.ensures c.in_ok-last.ensures.files c.in_ok-write_all.ensures
