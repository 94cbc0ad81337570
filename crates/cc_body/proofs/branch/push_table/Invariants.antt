use Rattle.std.proofs.Common.{◌≡◌, ◌++◌, drop, reverse}
use Rattle.wm_place.specs.Stop.{visit_told}
use Rattle.cc_pieces.specs.View.{list_view}
use Rattle.cc_body.specs.steps.Emission.{table_list}
use Rattle.cc_body.specs.steps.PieceBuilder.{ground}
use Rattle.cc_body.proofs.branch.push_table.Given as goal

abbrev pub invariant-loop-index : goal.invariant-loop-index
invariant-loop-index l =
    list_view l.items.items ++ table_list (ground l.body) (visit_told l.stop) (reverse l.kinds) l.place l.index (drop l.index l.labels) l.last
    ≡ list_view l.initial.items.items ++ table_list (ground l.body) (visit_told l.stop) (reverse l.kinds) l.place 0 l.labels l.last
