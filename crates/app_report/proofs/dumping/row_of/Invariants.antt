use Rattle.std.proofs.Common.{◌≡◌, ◌*◌, ℕ, List, take, drop, Some}
use Rattle.mc_cmd.specs.Layout.{page_in}
use Rattle.mc_nbt.specs.View.{view}
use Rattle.app_report.proofs.dumping.row_of.Given as goal

abbrev pub invariant-loop-i : goal.invariant-loop-i
invariant-loop-i l = (bytes : List ℕ) → page_in (view l.page) ≡ Some bytes → l.bytes.items ≡ take l.i (drop (16 * l.row) bytes)
