use Rattle.std.proofs.Common.{◌+◌, ◌∙◌, refl, sym, ap, map, Bor}
use Rattle.std.specs.Prelude.{option_map}
use Rattle.mc_cmd.specs.declared.TheConstants.{BMIN}
use Rattle.mc_cmd.specs.Form.{Text}
use Rattle.app_words.specs.Script.{is_low}
use Rattle.app_words.specs.View.{act_view, line_view}
use Rattle.app_words.specs.steps.ScriptReading.{act_by, said_by}
use Rattle.app_words.proofs.ScriptLemmas.{read_more}
use Rattle.app_words.proofs.SharedLemmas.{from_here}
use Rattle.app_words.proofs.reading.read_lines.Goals as goal

pub loop-i-preserved : goal.loop-i-preserved
loop-i-preserved c =
    read_more (act_by c.args.asks) (is_low BMIN) line_view c.push.new.self.items c.loop-i.lines.items (record { line = c.loop-i.i + 1; act = c.in-Some.act }) (c.loop-i.i + 1) (act_view c.in-Some.act)
    _ _ _ (said_by c.args.asks c.args.bytes.now)
    c.in_ok-push-in-Some.ensures.items refl (sym c.is_silent.ensures ∙ c.if-is_silent.false) (sym c.in_ok-act.ensures ∙ ap (option_map act_view) c.in-Some.is) c.loop-i.invariant
    (ap (map (λ (t : Bor Text). t.now)) (from_here c.as_slice-text-items.result.now c.loop-i.i _ c.loop-i-test.true))
