use Rattle.std.proofs.Common.{◌≡◌, ◌++◌}
use Rattle.cc_pieces.specs.Parts.{parts_view, placer_parts}
use Rattle.cc_pieces.proofs.placing.push_placers.Given as goal

abbrev pub invariant-loop-place : goal.invariant-loop-place
invariant-loop-place l = parts_view l.parts.items ≡ parts_view l.initial.parts.items ++ placer_parts l.ints l.place
