-- Items that are copied one after the other.
use Rattle.std.proofs.Common.{◌≡◌, List, [], ◌∷◌, ◌++◌, sym, ap, ◌∙◌}
use Rattle.cc_line.specs.declared.item.Item.{Item}
use Rattle.cc_line.specs.Item.{first, join}
use Rattle.cc_line.specs.View.{item_view, items_view}
use Rattle.cc_line.proofs.ItemViewLemmas.{join_none, view_pushed}

pub copied_on : (here now : List Item) (y x : Item) (xs ys all : List Item) → now ≡ here ++ (y ∷ []) → xs ≡ x ∷ ys → item_view y ≡ item_view x → join (items_view here) (items_view xs) ≡ items_view all → join (items_view now) (items_view ys) ≡ items_view all
copied_on here now y x xs ys all n e f h =
    ap (λ (zs : List Item). join (items_view zs) (items_view ys)) n ∙ view_pushed here y (items_view ys)
    ∙ ap (λ z. join (items_view here) (first z (items_view ys))) f
    ∙ ap (λ (zs : List Item). join (items_view here) (items_view zs)) (sym e) ∙ h

pub all_copied : (here xs all : List Item) → xs ≡ [] → join (items_view here) (items_view xs) ≡ items_view all → items_view here ≡ items_view all
all_copied here xs all e h = sym (join_none (items_view here)) ∙ ap (λ (zs : List Item). join (items_view here) (items_view zs)) (sym e) ∙ h
