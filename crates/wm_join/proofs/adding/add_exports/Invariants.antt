use Rattle.std.proofs.Common.{◌≡◌, ◌++◌, map, drop}
use Rattle.wm_join.specs.steps.Parts.{export_with}
use Rattle.wm_join.proofs.adding.add_exports.Given as goal

abbrev pub invariant-loop-export : goal.invariant-loop-export
invariant-loop-export l = l.found ++ map (export_with l.numbers) (drop l.export-index l.exports) ≡ l.initial.found ++ map (export_with l.numbers) l.exports
