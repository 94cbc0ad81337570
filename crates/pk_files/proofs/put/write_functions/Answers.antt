use Rattle.std.proofs.Common.{◌+◌, sym, subst, drop, map, List, arith}
use Rattle.pk_files.specs.Put.{File, function_written}
use Rattle.pk_files.specs.steps.Writing.{file_view}
use Rattle.pk_files.proofs.PutLemmas.{PutsOn, drop_get, none_left, puts_end, puts_more, puts_none, puts_stop, some_left}
use Rattle.pk_files.proofs.put.write_functions.Goals as goal

pub returns-in_err-file : goal.returns-in_err-file
returns-in_err-file g c =
    let all = map (function_written c.args.folder.now) c.args.pack.now.functions in
    puts_none (g.F.Files.state c.args.files.now) (g.F.Files.state c.loop-at.files) (drop c.loop-at.at all) all _ c.loop-at.invariant
    (some_left (function_written c.args.folder.now) c.args.pack.now.functions c.loop-at.at (omega (arith, c.loop-at-test.true, c.functions-at-end.ensures))) c.from_residual.ensures

pub returns-in_err-write_file : goal.returns-in_err-write_file
returns-in_err-write_file g c =
    let before = g.F.Files.state c.args.files.now in
    let now = g.F.Files.state c.loop-at.files in
    let all = map (function_written c.args.folder.now) c.args.pack.now.functions in
    puts_stop before now (g.F.Files.state c.write_file.new.files) (file_view c.in_ok-file.file) (drop (c.loop-at.at + 1) all) all c.in_err-write_file.field-0.0 _
    (subst (λ (left : List File). PutsOn before now left all) (drop_get all c.loop-at.at (file_view c.in_ok-file.file) (sym c.in_ok-file.ensures)) c.loop-at.invariant)
    c.in_err-write_file.ensures c.from_residual-in_err-write_file.ensures

pub loop-at-preserved : goal.loop-at-preserved
loop-at-preserved g c =
    let before = g.F.Files.state c.args.files.now in
    let now = g.F.Files.state c.loop-at.files in
    let all = map (function_written c.args.folder.now) c.args.pack.now.functions in
    puts_more before now (g.F.Files.state c.write_file.new.files) (file_view c.in_ok-file.file) (drop (c.loop-at.at + 1) all) all
    (subst (λ (left : List File). PutsOn before now left all) (drop_get all c.loop-at.at (file_view c.in_ok-file.file) (sym c.in_ok-file.ensures)) c.loop-at.invariant)
    c.in_ok-write_file.ensures

pub returns : goal.returns
returns g c =
    let all = map (function_written c.args.folder.now) c.args.pack.now.functions in
    puts_end (g.F.Files.state c.args.files.now) (g.F.Files.state c.loop-at.files) (drop c.loop-at.at all) all c.loop-at.invariant
    (none_left (function_written c.args.folder.now) c.args.pack.now.functions c.loop-at.at (omega (arith, c.loop-at-test.false, c.functions-at-end.ensures)))
