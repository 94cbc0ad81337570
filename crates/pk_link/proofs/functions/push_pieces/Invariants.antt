use Rattle.std.proofs.Common.{◌≡◌, ◌++◌, map, take}
use Rattle.cc_line.specs.BlockView.{functions_view}
use Rattle.cc_pieces.specs.Parts.{parts_view}
use Rattle.pk_link.specs.Functions as spec
use Rattle.pk_link.proofs.functions.push_pieces.Given as goal

abbrev pub invariant-loop-part : goal.invariant-loop-part
invariant-loop-part l =
    functions_view l.functions
    ≡ functions_view l.initial.functions ++ map (spec.piece_function l.ns) (parts_view (take l.part-index l.parts))
