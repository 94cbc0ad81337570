use Rattle.std.proofs.Common.{◌≡◌, ◌++◌, string_bytes, drop}
use Rattle.mc_cmd.specs.Tidy.{parts_by}
use Rattle.mc_cmd.specs.View.{pattern_view}
use Rattle.mc_tidy.proofs.line.filled_by.Given as goal

abbrev pub invariant-loop-part : goal.invariant-loop-part
invariant-loop-part l = string_bytes l.out ++ parts_by l.digit (pattern_view (drop l.part-index l.parts)) ≡ parts_by l.digit (pattern_view l.parts)
