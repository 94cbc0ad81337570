use Rattle.std.proofs.Common.{◌≡◌, ◌++◌, drop}
use Rattle.pk_link.specs.steps.Adding.{exported_in}
use Rattle.pk_link.proofs.functions.exported_functions.Given as goal

abbrev pub invariant-loop-export : goal.invariant-loop-export
invariant-loop-export l =
    l.functions.items ++ exported_in (drop l.export-index l.export-items) ≡ exported_in l.export-items
