use Rattle.std.proofs.Common.{◌≡◌, ◌++◌, map, drop}
use Rattle.mc_cmd.specs.Packing.{export_view}
use Rattle.pk_link.specs.steps.Adding.{export_entries}
use Rattle.pk_link.proofs.index.index_of.Given as goal

abbrev pub invariant-loop-export : goal.invariant-loop-export
invariant-loop-export l =
    map export_view l.exports.items ++ export_entries l.m (drop l.export-index l.export-items)
    ≡ export_entries l.m l.export-items
