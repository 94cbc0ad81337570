use Rattle.mc_inspect.proofs.Giving.{GivesNone}
use Rattle.mc_inspect.proofs.calls.some_gives.Given as goal

-- none of the functions so far gives these
abbrev pub invariant-loop-func : goal.invariant-loop-func
invariant-loop-func l = GivesNone l.m l.results l.func
