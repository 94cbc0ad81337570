use Rattle.std.proofs.Common.{sym, subst, List, inr}
use Rattle.mc_cmd.specs.Form.{Text}
use Rattle.app_words.specs.declared.command_line.Job.{Job}
use Rattle.app_words.specs.declared.named_files.NamedFile.{NamedFile}
use Rattle.app_top.specs.Joining.{IsJoinAnswered}
use Rattle.app_top.specs.Sharing.{IsSharedAnswered}
use Rattle.app_top.specs.Outside.{outside}
use Rattle.app_top.specs.Top.{IsAnsweredJob}
use Rattle.app_top.proofs.program.run.Goals as goal

pub returns-in-Join : goal.returns-in-Join
returns-in-Join g c =
    let before = outside (g.F.Files.state c.args.files.now) (g.O.Sink.state c.args.out.now) in
    let after = outside (g.F.Files.state c.join_modules.new.files) (g.O.Sink.state c.join_modules.new.out) in
    let answered =
    subst (λ (ls : List NamedFile). IsJoinAnswered c.in-Join.file c.in-Join.dir c.in-Join.ns c.in-Join.script ls before after c.join_modules.result)
    c.as_slice.ensures c.join_modules.ensures
    in
    inr (inr (record {
      job = c.in_ok-job.job;
      is_job = c.in_ok-job.ensures;
      answered = subst (λ (job : Job). IsAnsweredJob job before after c.join_modules.result) (sym c.in-Join.is) answered;
    }))

pub returns-in-Multi : goal.returns-in-Multi
returns-in-Multi g c =
    let before = outside (g.F.Files.state c.args.files.now) (g.O.Sink.state c.args.out.now) in
    let after = outside (g.F.Files.state c.share_world.new.files) (g.O.Sink.state c.share_world.new.out) in
    let answered =
    subst (λ (dirs : List Text). IsSharedAnswered c.in-Multi.script dirs before after c.share_world.result)
    c.as_slice-in-Multi.ensures c.share_world.ensures
    in
    inr (inr (record {
      job = c.in_ok-job.job;
      is_job = c.in_ok-job.ensures;
      answered = subst (λ (job : Job). IsAnsweredJob job before after c.share_world.result) (sym c.in-Multi.is) answered;
    }))
