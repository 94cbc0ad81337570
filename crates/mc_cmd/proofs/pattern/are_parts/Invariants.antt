use Rattle.std.proofs.Common.{◌≡◌, drop}
use Rattle.mc_cmd.specs.Pattern.{parts_fit}
use Rattle.mc_cmd.specs.View.{pattern_view}
use Rattle.mc_cmd.proofs.PatternFitsLemmas.{left_fit}
use Rattle.mc_cmd.proofs.pattern.are_parts.Given as goal

abbrev pub invariant-loop-part : goal.invariant-loop-part
invariant-loop-part l = parts_fit (pattern_view l.parts) ≡ left_fit l.behind_literal (pattern_view (drop l.part-index l.parts))
