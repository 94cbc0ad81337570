use Rattle.std.proofs.Common.{◌≡◌, ◌++◌, option_map, map, drop}
use Rattle.serde_json.specs.View.{items_view}
use Rattle.pk_files.specs.Json.{all_in, export_in}
use Rattle.mc_cmd.specs.Packing.{export_view}
use Rattle.pk_files.proofs.forms.exports_of.Given as goal

abbrev pub invariant-loop-item : goal.invariant-loop-item
invariant-loop-item l = all_in export_in (items_view l.fn.items) ≡ option_map (λ rest. map export_view l.exports.items ++ rest) (all_in export_in (items_view (drop l.item-index l.items)))
