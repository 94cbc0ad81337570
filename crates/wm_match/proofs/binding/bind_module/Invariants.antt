use Rattle.std.proofs.Common.{◌≡◌}
use Rattle.wm_match.specs.Cause.{program, AreBoundTo}
use Rattle.wm_match.proofs.binding.bind_module.Given as goal

abbrev pub invariant-loop-n : goal.invariant-loop-n
invariant-loop-n l = record {
  items : l.import-items ≡ l.m.imports;
  part : AreBoundTo l.libs l.main (program l.libs l.main l.done) l.k l.n l.m l.part.items;
}
