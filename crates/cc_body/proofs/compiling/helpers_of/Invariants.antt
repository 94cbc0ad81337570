use Rattle.std.proofs.Common.{◌≡◌, drop}
use Rattle.cc_line.specs.BlockView.{functions_view}
use Rattle.cc_line.specs.Helpers.{each_once, with_helpers}
use Rattle.cc_body.specs.Parts.{parts_helpers}
use Rattle.cc_pieces.specs.Parts.{parts_view}
use Rattle.cc_body.proofs.compiling.helpers_of.Given as goal

abbrev pub invariant-loop-part : goal.invariant-loop-part
invariant-loop-part l = with_helpers (functions_view l.found) (parts_helpers l.ns (parts_view (drop l.part-index l.parts))) ≡ each_once (parts_helpers l.ns (parts_view l.parts))
