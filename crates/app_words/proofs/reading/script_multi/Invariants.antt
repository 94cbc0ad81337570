use Rattle.std.proofs.Common.{◌≡◌, ◌+◌, map, drop}
use Rattle.app_words.specs.Script.{is_low, lines_read}
use Rattle.app_words.specs.SharedScript.{least_of, shared_read, shared_script_read}
use Rattle.app_words.specs.View.{shared_line_view}
use Rattle.app_words.proofs.ScriptLemmas.{lines_before}
use Rattle.app_words.proofs.reading.script_multi.Given as goal

abbrev pub invariant-loop-i : goal.invariant-loop-i
invariant-loop-i l =
    lines_before (map shared_line_view l.lines.items) (lines_read (shared_read l.count) (is_low (least_of l.count)) (l.i + 1) (map (λ t. t.now) (drop l.i l.text-items)))
    ≡ shared_script_read l.count l.bytes
