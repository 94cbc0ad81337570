use Rattle.std.proofs.Common.{◌≡◌, take}
use Rattle.std.specs.Prelude.{All}
use Rattle.wm_flat.specs.FlatTyping.{types_of}
use Rattle.wm_valid.specs.InRange.{IsInRange}
use Rattle.wm_reduce.proofs.invocation.are.Given as goal

abbrev pub invariant-loop-i : goal.invariant-loop-i
invariant-loop-i l = record {
  types : take l.i (types_of l.values) ≡ take l.i l.types;
  range : All IsInRange (take l.i l.values);
}
