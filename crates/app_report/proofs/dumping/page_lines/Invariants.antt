use Rattle.std.proofs.Common.{◌≡◌, ◌++◌, ◌/◌, ℕ, List, Some, length}
use Rattle.std.specs.Prelude.{string_bytes}
use Rattle.mc_cmd.specs.Layout.{page_in}
use Rattle.mc_nbt.specs.View.{view}
use Rattle.app_words.specs.Lines.{row_lines}
use Rattle.app_report.proofs.RowsLemmas.{rows_left}
use Rattle.app_report.proofs.dumping.page_lines.Given as goal

abbrev pub invariant-loop-i : goal.invariant-loop-i
invariant-loop-i l = (bytes : List ℕ) → page_in (view l.page) ≡ Some bytes → string_bytes l.text ++ rows_left l.address l.i bytes ≡ row_lines (length bytes / 16) l.address bytes
