use Rattle.std.proofs.Common.{◌≡◌, ◌++◌, option_map, drop}
use Rattle.serde_json.specs.View.{items_view}
use Rattle.pk_files.specs.Json.{all_in, kind_in}
use Rattle.pk_files.proofs.forms.kinds_of.Given as goal

abbrev pub invariant-loop-item : goal.invariant-loop-item
invariant-loop-item l = all_in kind_in (items_view l.fn.items) ≡ option_map (λ rest. l.kinds.items ++ rest) (all_in kind_in (items_view (drop l.item-index l.items)))
