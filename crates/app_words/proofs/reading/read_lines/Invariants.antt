use Rattle.std.proofs.Common.{◌≡◌, ◌+◌, map, drop}
use Rattle.mc_cmd.specs.declared.TheConstants.{BMIN}
use Rattle.app_words.specs.Script.{is_low, lines_read}
use Rattle.app_words.specs.View.{line_view}
use Rattle.app_words.specs.steps.ScriptReading.{act_by, said_by}
use Rattle.app_words.proofs.ScriptLemmas.{lines_before}
use Rattle.app_words.proofs.reading.read_lines.Given as goal

abbrev pub invariant-loop-i : goal.invariant-loop-i
invariant-loop-i l = lines_before (map line_view l.lines.items) (lines_read (act_by l.asks) (is_low BMIN) (l.i + 1) (map (λ t. t.now) (drop l.i l.text-items))) ≡ said_by l.asks l.bytes
