-- Items as lists, as code adds them.
use Rattle.std.specs.Prelude.{List, [], ◌∷◌, ◌++◌, map}
use Rattle.cc_line.specs.Step.{Act, Cond, Step, run_act, when, stop_when}
use Rattle.cc_line.specs.Item.{Item, step_item, Items, no_more, first}

-- ---- items as lists

abbrev pub listed : Items → List Item
listed no_more = []
listed (first x xs) = x ∷ listed xs

abbrev pub steps_list : List Step → List Item
steps_list xs = map step_item xs

abbrev pub acts_list : List Act → List Item
acts_list acts = map (λ a. step_item (run_act a)) acts

-- these acts where the conditions hold, and there the end
abbrev pub exit_list : List Cond → List Act → List Item
exit_list cs acts = map (λ a. step_item (when cs a)) acts ++ step_item (stop_when cs) ∷ []
