use Rattle.std.proofs.Common.{◌≡◌, ◌++◌, string_bytes, drop}
use Rattle.mc_cmd.specs.Pattern.{parts_text}
use Rattle.mc_cmd.specs.View.{pattern_view}
use Rattle.mc_cmd.proofs.spelling.print_parts.Given as goal

abbrev pub invariant-loop-part : goal.invariant-loop-part
invariant-loop-part l = string_bytes l.out ++ parts_text (pattern_view (drop l.part-index l.parts)) ≡ string_bytes l.initial.out ++ parts_text (pattern_view l.parts)
