use Rattle.std.proofs.Common.{◌≡◌, ◌++◌, drop}
use Rattle.wm_join.proofs.adding.add_types.Given as goal

abbrev pub invariant-loop-ty : goal.invariant-loop-ty
invariant-loop-ty l = l.found ++ drop l.ty-index l.types ≡ l.initial.found ++ l.types
