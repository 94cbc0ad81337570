use Rattle.std.proofs.Common.{◌≡◌, ℕ, List, take, drop, Some}
use Rattle.app_report.specs.steps.Pages.{bytes_of}
use Rattle.app_report.proofs.pages.bytes_from.Given as goal

abbrev pub invariant-loop-i : goal.invariant-loop-i
invariant-loop-i l = (bytes : List ℕ) → bytes_of l.pages ≡ Some bytes → l.bytes.items ≡ take l.i (drop l.at bytes)
