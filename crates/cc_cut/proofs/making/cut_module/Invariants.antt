use Rattle.std.proofs.Common.{◌≡◌, ◌++◌, drop}
use Rattle.cc_cut.specs.Cuts.{cuts_by, cuts_of}
use Rattle.cc_cut.proofs.making.cut_module.Given as goal

abbrev pub invariant-loop-func : goal.invariant-loop-func
invariant-loop-func l = l.cuts.items ++ cuts_by l.m l.func (drop l.func l.m.funcs) ≡ cuts_of l.m
