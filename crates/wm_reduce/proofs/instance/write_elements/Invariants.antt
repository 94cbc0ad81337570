use Rattle.std.proofs.Common.{◌≡◌, drop, length}
use Rattle.wm_ast.specs.Instance.{with_elements}
use Rattle.wm_reduce.proofs.instance.write_elements.Given as goal

abbrev pub invariant-loop-elem : goal.invariant-loop-elem
invariant-loop-elem l = record {
  same : with_elements (drop l.elem-index l.elems) l.table.items ≡ with_elements l.elems l.initial.table.items;
  size : length l.table.items ≡ length l.initial.table.items;
}
