use Rattle.std.proofs.Common.{◌≡◌, drop}
use Rattle.wm_ast.specs.Instance.{with_datas}
use Rattle.cc_init.proofs.pages.put_segments.Given as goal

abbrev pub invariant-loop-segment : goal.invariant-loop-segment
invariant-loop-segment l = with_datas (drop l.segment-index l.segments) l.bytes.items ≡ with_datas l.segments l.initial.bytes.items
