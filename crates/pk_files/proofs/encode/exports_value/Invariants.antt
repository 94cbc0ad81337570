use Rattle.std.proofs.Common.{◌≡◌, map, take}
use Rattle.serde_json.specs.View.{view}
use Rattle.pk_files.specs.Json.{export_data}
use Rattle.mc_cmd.specs.Packing.{export_view}
use Rattle.pk_files.proofs.encode.exports_value.Given as goal

abbrev pub invariant-loop-export : goal.invariant-loop-export
invariant-loop-export l = map view l.items.items ≡ map export_data (map export_view (take l.export-index l.exports))
