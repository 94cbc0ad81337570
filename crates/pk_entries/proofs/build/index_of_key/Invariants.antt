use Rattle.std.proofs.Common.{◌≡◌, ◌+◌, map, drop}
use Rattle.std.specs.Prelude.{option_map}
use Rattle.mc_nbt.specs.steps.Edit.{index_of_key}
use Rattle.mc_nbt.specs.View.{entry}
use Rattle.pk_entries.proofs.build.index_of_key.Given as goal

abbrev pub invariant-loop-i : goal.invariant-loop-i
invariant-loop-i l =
    index_of_key l.key (map entry l.fields)
    ≡ option_map (λ j. l.i + j) (index_of_key l.key (map entry (drop l.i l.fields)))
