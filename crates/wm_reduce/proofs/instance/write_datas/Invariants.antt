use Rattle.std.proofs.Common.{◌≡◌, drop, length}
use Rattle.wm_ast.specs.Instance.{with_datas}
use Rattle.wm_reduce.proofs.instance.write_datas.Given as goal

abbrev pub invariant-loop-data : goal.invariant-loop-data
invariant-loop-data l = record {
  same : with_datas (drop l.data-index l.datas) l.memory ≡ with_datas l.datas l.initial.memory;
  size : length l.memory ≡ length l.initial.memory;
}
