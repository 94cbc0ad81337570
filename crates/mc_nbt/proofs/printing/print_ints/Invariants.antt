use Rattle.std.proofs.Common.{◌≡◌, ◌++◌, string_bytes, map, drop}
use Rattle.mc_nbt.specs.Tree as spec
use Rattle.mc_nbt.proofs.PrintLemmas.{items_left}
use Rattle.mc_nbt.specs.Spelling.{first_item_text}
use Rattle.mc_nbt.proofs.printing.print_ints.Given as goal

abbrev pub invariant-loop-z : goal.invariant-loop-z
invariant-loop-z l = string_bytes l.out ++ items_left l.begun (spec.items (map spec.int (drop l.z-index l.ints))) ≡ string_bytes l.initial.out ++ first_item_text (spec.items (map spec.int l.ints))
