-- The charge of one item.
use Rattle.std.specs.Prelude.{ℕ, ◌+◌}
use Rattle.cc_line.specs.Step.{stop_when}
use Rattle.cc_line.specs.Item.{Item, step_item, Items, no_more, first, item_most}
use Rattle.cc_sched.specs.Charge.{take_charge}

-- an item as it stands among others before which so much is to be paid: a way out has its charge before it
abbrev pub with_charge : ℕ → Item → Items
with_charge n (step_item (stop_when cs)) = first (take_charge (n + 3)) (first (step_item (stop_when cs)) no_more)
with_charge n x = first x no_more

-- what is to be paid once it was run
abbrev pub owed : ℕ → Item → ℕ
owed n (step_item (stop_when cs)) = 0
owed n x = n + item_most x
