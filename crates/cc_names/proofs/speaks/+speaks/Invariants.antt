use Rattle.std.proofs.Common.{◌≡◌, drop}
use Rattle.cc_line.specs.View.{items_view}
use Rattle.cc_names.specs.Names.{items_speak}
use Rattle.cc_names.proofs.speaks.+speaks.Given as goal

abbrev pub invariant-items_speak-loop-item : goal.invariant-items_speak-loop-item
invariant-items_speak-loop-item l = items_speak (items_view (drop l.item-index l.items)) ≡ items_speak (items_view l.items)
