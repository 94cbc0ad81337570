use Rattle.std.proofs.Common.{◌∙◌, sym, ap, map, Bor}
use Rattle.mc_cmd.specs.Form.{Text}
use Rattle.app_words.specs.SharedScript.{shared_script_read}
use Rattle.app_words.proofs.SharedLemmas.{from_here, pushed}
use Rattle.app_words.proofs.reading.script_multi.Goals as goal

pub loop-i-preserved : goal.loop-i-preserved
loop-i-preserved c =
    pushed c.args.count c.push.new.self.items c.loop-i.lines.items c.loop-i.i c.in-Some.act _ _ _ c.in_ok-act.field-0 (shared_script_read c.args.count c.args.bytes.now)
    c.in_ok-push-in-Some.ensures.items (sym c.is_silent.ensures ∙ c.if-is_silent.false) c.in_ok-act.ensures c.in-Some.is c.loop-i.invariant
    (ap (map (λ (t : Bor Text). t.now)) (from_here c.as_slice-text-items.result.now c.loop-i.i _ c.loop-i-test.true))
