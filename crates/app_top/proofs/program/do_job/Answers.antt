use Rattle.std.proofs.Common.{sym, subst, map}
use Rattle.app_words.specs.View.{line_view}
use Rattle.app_words.specs.declared.command_line.Job.{Job}
use Rattle.app_top.specs.Outside.{outside}
use Rattle.app_top.specs.steps.Run.{IsJobDone}
use Rattle.app_top.proofs.program.do_job.Goals as goal

pub returns-in-Run : goal.returns-in-Run
returns-in-Run g c =
    subst (λ (job : Job). IsJobDone job (outside (g.F.Files.state c.args.files.now) (g.O.Sink.state c.args.out.now)) (outside (g.F.Files.state c.play_folder.new.files) (g.O.Sink.state c.play_folder.new.out)) c.args.wasm.now (map line_view c.args.lines.now) c.play_folder.result)
    (sym c.in-Run.is) c.play_folder.ensures
