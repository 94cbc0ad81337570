use Rattle.std.proofs.Common.{◌≡◌, map, take}
use Rattle.wm_place.specs.Stop.{visit_told}
use Rattle.cc_body.specs.steps.Emission.{label_number}
use Rattle.cc_body.specs.steps.PieceBuilder.{ground}
use Rattle.cc_body.proofs.branch_table.label_numbers.Given as goal

abbrev pub invariant-loop-label : goal.invariant-loop-label
invariant-loop-label l = l.numbers.items ≡ map (label_number (ground l.body) (visit_told l.stop)) (take l.label-index l.labels)
