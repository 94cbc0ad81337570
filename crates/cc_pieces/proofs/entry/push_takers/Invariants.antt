use Rattle.std.proofs.Common.{◌≡◌, ◌++◌}
use Rattle.cc_pieces.specs.Parts.{parts_view, taker_parts}
use Rattle.cc_pieces.proofs.entry.push_takers.Given as goal

abbrev pub invariant-loop-number : goal.invariant-loop-number
invariant-loop-number l = parts_view l.parts.items ≡ parts_view l.initial.parts.items ++ taker_parts l.number
