use Rattle.std.proofs.Common.{◌≡◌, map, take}
use Rattle.serde_json.specs.View.{view}
use Rattle.pk_files.specs.Json.{kind_data}
use Rattle.pk_files.proofs.encode.kinds_value.Given as goal

abbrev pub invariant-loop-kind : goal.invariant-loop-kind
invariant-loop-kind l = map view l.items.items ≡ map kind_data (take l.kind-index l.kinds)
