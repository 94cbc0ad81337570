use Rattle.std.proofs.Common.{◌+◌, ◌∙◌, sym, subst, drop, List, Result}
use Rattle.mc_cmd.specs.Form.{Text}
use Rattle.app_top.specs.declared.refusal.Refusal.{Refusal}
use Rattle.app_top.specs.steps.JoinRun.{AreLibrariesRead}
use Rattle.app_top.proofs.JoinLemmas.{ReadsOn, all_read, library_unread, reads_more}
use Rattle.app_top.proofs.ProgramLemmas.{err_is}
use Rattle.app_top.proofs.inputs.read_libraries.Goals as goal

pub returns-in_err-bytes : goal.returns-in_err-bytes
returns-in_err-bytes g c =
    let before = g.F.Files.state c.args.files.now in
    let after = g.F.Files.state c.read.new.files in
    subst (λ (r : Result (List Text) Refusal). AreLibrariesRead c.args.libraries.now before after r)
    (sym (err_is c.from_residual.result c.in_err-bytes.field-0.0 c.from_residual.ensures))
    (library_unread before (g.F.Files.state c.loop-library.files) after c.args.libraries.now c.loop-library.library-index c.library-item.result c.loop-library.found c.in_err-bytes.field-0.0
    c.loop-library-test.true c.library-item.is c.loop-library.invariant.same c.loop-library.invariant.reads c.in_err-bytes.ensures)

pub loop-library-preserved : goal.loop-library-preserved
loop-library-preserved g c =
    let before = g.F.Files.state c.args.files.now in
    record {
      same = c.in_ok-bytes.ensures.0 ∙ c.loop-library.invariant.same;
      reads = subst (λ (found : List Text). ReadsOn before.content found (drop (c.loop-library.library-index + 1) c.args.libraries.now) c.args.libraries.now) (sym c.in_ok-push.ensures.ok)
          (reads_more before (g.F.Files.state c.loop-library.files) (g.F.Files.state c.read.new.files) c.args.libraries.now c.loop-library.library-index c.library-item.result c.in_ok-bytes.bytes c.loop-library.found
          c.loop-library-test.true c.library-item.is c.loop-library.invariant.same c.loop-library.invariant.reads c.in_ok-bytes.ensures);
    }

pub returns : goal.returns
returns g c =
    (c.loop-library.invariant.same, all_read (g.F.Files.state c.args.files.now).content c.args.libraries.now c.loop-library.library-index c.loop-library.found c.loop-library-test.false c.loop-library.invariant.reads)
