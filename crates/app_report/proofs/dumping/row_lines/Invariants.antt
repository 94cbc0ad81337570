use Rattle.std.proofs.Common.{◌≡◌, ◌*◌, ◌++◌, drop}
use Rattle.std.specs.Prelude.{string_bytes}
use Rattle.app_report.specs.steps.Pages.{ArePages, bytes_of, rows_from}
use Rattle.app_report.proofs.dumping.row_lines.Given as goal

abbrev pub invariant-loop-i : goal.invariant-loop-i
invariant-loop-i l = record {
  pages : ArePages (drop l.i l.pages);
  so_far : string_bytes l.text ++ rows_from (65536 * l.i) (bytes_of (drop l.i l.pages)) ≡ rows_from 0 (bytes_of l.pages);
}
