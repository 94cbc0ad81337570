use Rattle.std.proofs.Common.{sym, subst, Result}
use Rattle.app_top.specs.declared.inputs.JoinInputs.{JoinInputs}
use Rattle.app_top.specs.declared.refusal.Refusal.{Refusal}
use Rattle.app_top.specs.steps.JoinRun.{AreSourcesRead}
use Rattle.app_top.proofs.JoinLemmas.{libraries_unread, main_unread, script_unread, sources_read}
use Rattle.app_top.proofs.ProgramLemmas.{err_is}
use Rattle.app_top.proofs.inputs.read_sources.Goals as goal

pub returns-in_err-script : goal.returns-in_err-script
returns-in_err-script g c =
    let before = g.F.Files.state c.args.files.now in
    let after = g.F.Files.state c.read.new.files in
    subst (λ (r : Result JoinInputs Refusal). AreSourcesRead c.args.script.now c.args.libraries.now c.args.main.now before after r)
    (sym (err_is c.from_residual.result c.in_err-script.field-0.0 c.from_residual.ensures))
    (script_unread before after c.args.script.now c.args.main.now c.args.libraries.now c.in_err-script.field-0.0 c.in_err-script.ensures)

pub returns-in_err-libraries : goal.returns-in_err-libraries
returns-in_err-libraries g c =
    let before = g.F.Files.state c.args.files.now in
    let after = g.F.Files.state c.read_libraries.new.files in
    subst (λ (r : Result JoinInputs Refusal). AreSourcesRead c.args.script.now c.args.libraries.now c.args.main.now before after r)
    (sym (err_is c.from_residual-in_err-libraries.result c.in_err-libraries.field-0.0 c.from_residual-in_err-libraries.ensures))
    (libraries_unread before (g.F.Files.state c.read.new.files) after c.args.script.now c.args.main.now c.in_ok-script.script c.args.libraries.now c.in_err-libraries.field-0.0 c.in_ok-script.ensures c.in_err-libraries.ensures)

pub returns-in_err-main : goal.returns-in_err-main
returns-in_err-main g c =
    let before = g.F.Files.state c.args.files.now in
    let after = g.F.Files.state c.read-2.new.files in
    subst (λ (r : Result JoinInputs Refusal). AreSourcesRead c.args.script.now c.args.libraries.now c.args.main.now before after r)
    (sym (err_is c.from_residual-in_err-main.result c.in_err-main.field-0.0 c.from_residual-in_err-main.ensures))
    (main_unread before (g.F.Files.state c.read.new.files) (g.F.Files.state c.read_libraries.new.files) after c.args.script.now c.args.main.now c.in_ok-script.script c.args.libraries.now c.in_ok-libraries.libraries c.in_err-main.field-0.0
    c.in_ok-script.ensures c.in_ok-libraries.ensures c.in_err-main.ensures)

pub returns : goal.returns
returns g c =
    let i : JoinInputs = record { script = c.in_ok-script.script; sources = record { libraries = c.in_ok-libraries.libraries; main = c.in_ok-main.main } } in
    sources_read (g.F.Files.state c.args.files.now) (g.F.Files.state c.read.new.files) (g.F.Files.state c.read_libraries.new.files) (g.F.Files.state c.read-2.new.files) c.args.script.now c.args.main.now c.args.libraries.now i
    c.in_ok-script.ensures c.in_ok-libraries.ensures c.in_ok-main.ensures
