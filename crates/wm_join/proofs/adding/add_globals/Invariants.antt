use Rattle.std.proofs.Common.{◌≡◌, ◌++◌, map, drop}
use Rattle.wm_join.specs.steps.Parts.{global_with}
use Rattle.wm_join.proofs.adding.add_globals.Given as goal

abbrev pub invariant-loop-global : goal.invariant-loop-global
invariant-loop-global l = l.found ++ map (global_with l.numbers) (drop l.global-index l.globals) ≡ l.initial.found ++ map (global_with l.numbers) l.globals
