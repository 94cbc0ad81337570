-- Acts and steps as lists are the items that they stand for.
use Rattle.std.proofs.Common.{◌≡◌, List, [], ◌∷◌, refl, ap, ◌∙◌}
use Rattle.cc_line.specs.Item.{Items, no_more, first, join, step_item, steps_items}
use Rattle.cc_line.specs.Step.{Act, Step, run_act}
use Rattle.cc_line.specs.View.{items_from}
use Rattle.cc_call.specs.Acts.{acts_then}
use Rattle.cc_line.proofs.ItemViewLemmas.{join_none}
use Rattle.cc_pieces.specs.Lists.{steps_list, acts_list}

-- ---- items

pub acts_are : (acts : List Act) (rest : Items) → acts_then acts rest ≡ join (items_from (acts_list acts)) rest
acts_are [] rest = refl
acts_are (a ∷ acts) rest = ap (first (step_item (run_act a))) (acts_are acts rest)

-- acts with which a piece ends
pub acts_end : (acts : List Act) → acts_then acts no_more ≡ items_from (acts_list acts)
acts_end acts = acts_are acts no_more ∙ join_none (items_from (acts_list acts))

pub steps_are : (xs : List Step) → steps_items xs ≡ items_from (steps_list xs)
steps_are [] = refl
steps_are (x ∷ xs) = ap (first (step_item x)) (steps_are xs)
