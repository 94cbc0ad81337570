use Rattle.std.proofs.Common.{◌≡◌, ◌<◌, sym, ap, subst, length}
use Rattle.std.specs.Prelude.{IfOk, unwrap_or}
use Rattle.mc_cmd.specs.Command.{Line, nothing}
use Rattle.mc_cmd.specs.Chain.{line_of}
use Rattle.mc_cmd.specs.Form.{Text}
use Rattle.mc_cmd.specs.Grammar.{most}
use Rattle.app_words.proofs.ScriptLemmas.{said_too_long}
use Rattle.app_report.specs.steps.Weighing.{IsStep}
use Rattle.app_report.proofs.weighing.read_step.Goals as goal

pub returns-in-Err-TooLong : goal.returns-in-Err-TooLong
returns-in-Err-TooLong c =
    let long : most < length c.as_bytes.result.now = rw c.in-Err-TooLong.field-0-is at c.in-Err-TooLong.ensures in
    let none : nothing ≡ line_of c.args.text.now = ap (λ o. unwrap_or o nothing) (sym (said_too_long c.args.text.now (subst (λ (t : Text). most < length t) c.as_bytes.ensures long))) in
    subst (λ (l : Line). IfOk c.step_of-in-Err-TooLong.result (IsStep l)) none c.step_of-in-Err-TooLong.ensures
