use Rattle.std.proofs.Common.{sym, subst, List, Err, map}
use Rattle.mc_cmd.specs.Form.{Text}
use Rattle.app_words.specs.View.{line_view}
use Rattle.app_words.specs.declared.act.ScriptLine.{ScriptLine}
use Rattle.app_top.specs.Outside.{outside}
use Rattle.app_top.specs.Jobs.{End, said_of}
use Rattle.app_top.specs.Top.{IsAnsweredJob}
use Rattle.app_top.specs.steps.Run.{AreLinesRead, IsJobDone}
use Rattle.app_top.proofs.ProgramLemmas.{err_is, inputs_refused, lines_refused, job_done}
use Rattle.app_top.proofs.program.answer.Goals as goal

pub returns-in_err-inputs : goal.returns-in_err-inputs
returns-in_err-inputs g c =
    subst (λ (r : End). IsAnsweredJob c.args.job.now (outside (g.F.Files.state c.args.files.now) (g.O.Sink.state c.args.out.now)) (outside (g.F.Files.state c.read_inputs.new.files) (g.O.Sink.state c.args.out.now)) r)
    (sym (err_is c.from_residual.result c.in_err-inputs.field-0.0 c.from_residual.ensures))
    (inputs_refused c.args.job.now (g.F.Files.state c.args.files.now) (g.F.Files.state c.read_inputs.new.files) (g.O.Sink.state c.args.out.now) c.in_err-inputs.field-0.0 c.requires.plain c.in_err-inputs.ensures)

pub returns-in_err-lines : goal.returns-in_err-lines
returns-in_err-lines g c =
    subst (λ (r : End). IsAnsweredJob c.args.job.now (outside (g.F.Files.state c.args.files.now) (g.O.Sink.state c.args.out.now)) (outside (g.F.Files.state c.read_inputs.new.files) (g.O.Sink.state c.args.out.now)) r)
    (sym (err_is c.from_residual-in_err-lines.result c.in_err-lines.field-0.0 c.from_residual-in_err-lines.ensures))
    (lines_refused c.args.job.now (g.F.Files.state c.args.files.now) (g.F.Files.state c.read_inputs.new.files) (g.O.Sink.state c.args.out.now) c.in_ok-inputs.inputs c.in_err-lines.field-0.0 c.requires.plain c.in_ok-inputs.ensures (subst (λ (t : Text). AreLinesRead (said_of c.args.job.now t) (Err c.in_err-lines.field-0.0)) c.as_slice.ensures c.in_err-lines.ensures))

pub returns : goal.returns
returns g c =
    let after = outside (g.F.Files.state c.do_job.new.files) (g.O.Sink.state c.do_job.new.out) in
    let done =
    subst (λ (items : List ScriptLine). IsJobDone c.args.job.now (outside (g.F.Files.state c.read_inputs.new.files) (g.O.Sink.state c.args.out.now)) after c.in_ok-inputs.inputs.wasm (map line_view items) c.do_job.result)
    c.deref.ensures.value (rw c.as_slice-2.ensures at c.do_job.ensures)
    in
    job_done c.args.job.now (g.F.Files.state c.args.files.now) (g.F.Files.state c.read_inputs.new.files) (g.O.Sink.state c.args.out.now)
    after c.in_ok-inputs.inputs (map line_view c.in_ok-lines.lines.items) c.do_job.result
    c.requires.plain c.in_ok-inputs.ensures (rw c.as_slice.ensures at c.in_ok-lines.ensures) done
