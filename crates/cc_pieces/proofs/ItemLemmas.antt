-- Items as lists.
use Rattle.std.proofs.Common.{◌≡◌, List, [], ◌∷◌, ◌++◌, map, refl, sym, ap, ◌∙◌, append_assoc}
use Rattle.std.proofs.lemmas.List.{map-append}
use Rattle.cc_line.specs.declared.item.Item.{Item as Code}
use Rattle.cc_line.specs.Item.{Item, Items, no_more, first, join, step_item}
use Rattle.cc_line.specs.Step.{Act, Cond, stop_when, when}
use Rattle.cc_line.specs.View.{item_view, items_view, items_from}
use Rattle.cc_pieces.specs.View.{list_view}
use Rattle.cc_pieces.specs.Lists.{exit_list, listed, steps_list}

pub from_both : (xs ys : List Item) → items_from (xs ++ ys) ≡ join (items_from xs) (items_from ys)
from_both [] ys = refl
from_both (x ∷ xs) ys = ap (first x) (from_both xs ys)

pub back_listed : (xs : List Item) → listed (items_from xs) ≡ xs
back_listed [] = refl
back_listed (x ∷ xs) = ap (λ (l : List Item). x ∷ l) (back_listed xs)

pub from_listed : (xs : Items) → items_from (listed xs) ≡ xs
from_listed no_more = refl
from_listed (first x xs) = ap (first x) (from_listed xs)

-- the items of a block are added
pub block_added : (old now more : List Code) (xs : Items) → now ≡ old ++ more → items_view more ≡ xs → list_view now ≡ list_view old ++ listed xs
block_added old now more xs e k =
    ap list_view e ∙ (map-append item_view old more ∙ ap (λ (l : List Item). list_view old ++ l) (sym (back_listed (list_view more)) ∙ ap listed k))

-- acts where conditions hold, and there the end
whens_are : (cs : List Cond) (acts : List Act) → steps_list (map (when cs) acts) ≡ map (λ a. step_item (when cs a)) acts
whens_are cs [] = refl
whens_are cs (a ∷ acts) = ap (λ (l : List Item). step_item (when cs a) ∷ l) (whens_are cs acts)

pub exit_made : (cs : List Cond) (acts : List Act) (old : List Item) (one now : List Code) (x : Code) → list_view one ≡ old ++ steps_list (map (when cs) acts) → item_view x ≡ step_item (stop_when cs) → now ≡ one ++ x ∷ []
    → list_view now ≡ old ++ exit_list cs acts
exit_made cs acts old one now x one_is x_is now_is =
    ap list_view now_is
    ∙ (map-append item_view one (x ∷ [])
    ∙ (ap (λ (l : List Item). l ++ item_view x ∷ []) (one_is ∙ ap (λ (l : List Item). old ++ l) (whens_are cs acts))
    ∙ (append_assoc old (map (λ a. step_item (when cs a)) acts) (item_view x ∷ []) ∙ ap (λ (y : Item). old ++ (map (λ a. step_item (when cs a)) acts ++ y ∷ [])) x_is)))
