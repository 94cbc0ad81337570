use Rattle.std.proofs.Common.{◌≡◌, drop}
use Rattle.wm_ast.specs.Instance.{with_elements}
use Rattle.cc_table.proofs.table.put_segments.Given as goal

abbrev pub invariant-loop-segment : goal.invariant-loop-segment
invariant-loop-segment l =
    with_elements (drop l.segment-index l.segments) l.table.items ≡ with_elements l.segments l.initial.table.items
