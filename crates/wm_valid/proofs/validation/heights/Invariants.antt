use Rattle.std.proofs.Common.{◌≡◌}
use Rattle.wm_valid.specs.Checked.{AreHeights}
use Rattle.wm_valid.proofs.validation.heights.Given as goal

abbrev pub invariant-loop-func : goal.invariant-loop-func
invariant-loop-func l = record { items : l.f-items ≡ l.m.funcs; so_far : AreHeights l.m l.func l.heights.items }
