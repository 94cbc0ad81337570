use Rattle.std.proofs.Common.{◌≡◌, ◌++◌}
use Rattle.cc_pieces.specs.Parts.{parts_view}
use Rattle.cc_pieces.specs.Parts.{fetching_parts}
use Rattle.cc_pieces.proofs.fetching.push_fetching.Given as goal

abbrev pub invariant-loop-number : goal.invariant-loop-number
invariant-loop-number l =
    parts_view l.parts.items
    ≡ parts_view l.initial.parts.items ++ fetching_parts l.in_use l.params l.func l.index l.number
