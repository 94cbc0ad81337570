use Rattle.std.proofs.Common.{◌≡◌, ◌++◌, string_bytes, map, drop}
use Rattle.mc_nbt.specs.Tree as spec
use Rattle.mc_nbt.specs.View.{view, entry}
use Rattle.mc_nbt.specs.Spelling.{first_item_text, first_field_text}
use Rattle.mc_nbt.proofs.PrintLemmas.{items_left, fields_left}
use Rattle.mc_nbt.proofs.printing.+printing.Given as goal

abbrev pub invariant-print_trees-loop-tree : goal.invariant-print_trees-loop-tree
invariant-print_trees-loop-tree l = string_bytes l.out ++ items_left l.begun (spec.items (map view (drop l.tree-index l.trees))) ≡ string_bytes l.initial.out ++ first_item_text (spec.items (map view l.trees))

abbrev pub invariant-print_entries-loop-entry : goal.invariant-print_entries-loop-entry
invariant-print_entries-loop-entry l = string_bytes l.out ++ fields_left l.begun (spec.fields (map entry (drop l.entry-index l.entries))) ≡ string_bytes l.initial.out ++ first_field_text (spec.fields (map entry l.entries))
