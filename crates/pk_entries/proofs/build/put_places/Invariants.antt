use Rattle.std.proofs.Common.{◌≡◌, map, drop}
use Rattle.mc_nbt.specs.Tree.{compound_of}
use Rattle.mc_nbt.specs.View.{entry}
use Rattle.cc_line.specs.Running.{with_places}
use Rattle.pk_entries.proofs.build.put_places.Given as goal

abbrev pub invariant-loop-index : goal.invariant-loop-index
invariant-loop-index l =
    with_places l.index-counter (drop l.index-counter l.places) (compound_of (map entry l.fields.items))
    ≡ with_places 0 l.places (compound_of (map entry l.initial.fields.items))
