use Rattle.std.proofs.Common.{◌+◌, ap, subst, drop, map, List}
use Rattle.std.proofs.Math.ListN.{drop_of_length-le}
use Rattle.pk_files.specs.declared.put.FileBytes.{FileBytes}
use Rattle.pk_files.specs.steps.Writing.{file_view}
use Rattle.pk_files.proofs.PutLemmas.{PutsOn, puts_end, puts_stop}
use Rattle.pk_files.proofs.ReadLemmas.{drop_at}
use Rattle.pk_files.proofs.put.write_all.Goals as goal

pub returns-in_err-write_file : goal.returns-in_err-write_file
returns-in_err-write_file g c =
    let before = g.F.Files.state c.args.files.now in
    let now = g.F.Files.state c.loop-file.files in
    let after = g.F.Files.state c.write_file.new.files in
    let list = c.args.list.now in
    puts_stop before now after (file_view c.file-item.result) (map file_view (drop (c.loop-file.file-index + 1) list)) (map file_view list) c.in_err-write_file.field-0.0 _
    (subst (λ (left : List FileBytes). PutsOn before now (map file_view left) (map file_view list)) (drop_at list c.loop-file.file-index c.file-item.result c.loop-file-test.true c.file-item.is) c.loop-file.invariant)
    c.in_err-write_file.ensures c.from_residual.ensures

pub returns : goal.returns
returns g c =
    let list = c.args.list.now in
    puts_end (g.F.Files.state c.args.files.now) (g.F.Files.state c.loop-file.files) (map file_view (drop c.loop-file.file-index list)) (map file_view list) c.loop-file.invariant
    (ap (map file_view) (drop_of_length-le list c.loop-file-test.false))
