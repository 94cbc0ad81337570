-- Acts one after the other.
use Rattle.std.specs.Prelude.{List, [], ◌∷◌}
use Rattle.cc_line.specs.State.{State}
use Rattle.cc_line.specs.Step.{Act, run_act, after_act, ActReady}
use Rattle.cc_line.specs.Item.{step_item, Items, first}

-- these acts, and then items
abbrev pub acts_then : List Act → Items → Items
acts_then [] rest = rest
acts_then (a ∷ acts) rest = first (step_item (run_act a)) (acts_then acts rest)

-- the state after them
abbrev pub after_acts : List Act → State → State
after_acts [] s = s
after_acts (a ∷ acts) s = after_acts acts (after_act a s)

-- each of them finds the places that it needs
abbrev pub ActsReady : List Act → State → Type 0
ActsReady [] s = Unit {0}
ActsReady (a ∷ acts) s = ActReady a s × ActsReady acts (after_act a s)
