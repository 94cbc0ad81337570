-- The places that are scores, as a loop opens them one after the other.
use Rattle.std.proofs.Common.{◌≡◌, ℕ, suc, ◌+◌, ◌-◌, ◌<◌, ◌≤◌, List, [], ◌∷◌, ◌++◌, sym, ap, ◌∙◌, arith, add-one}
use Rattle.cc_line.specs.declared.item.Item.{Item}
use Rattle.cc_line.specs.Item.{Items, step_item, no_more, first, join}
use Rattle.cc_line.specs.Step.{run_act, open_place}
use Rattle.cc_line.specs.View.{item_view, items_view}
use Rattle.cc_line.proofs.ItemViewLemmas.{join_none, view_pushed}
use Rattle.cc_call.specs.Acts.{acts_then}
use Rattle.cc_init.specs.Init.{open_acts}

-- one place more is opened
pub place_more : (items now : List Item) (i : ℕ) (whole : Items) (x : Item) → i < 128 → now ≡ items ++ (x ∷ []) → item_view x ≡ step_item (run_act (open_place i))
    → join (items_view items) (acts_then (open_acts i (128 - i)) no_more) ≡ whole → join (items_view now) (acts_then (open_acts (i + 1) (128 - (i + 1))) no_more) ≡ whole
place_more items now i whole x h n e k =
    let s : 128 - i ≡ suc (128 - (i + 1)) = omega arith in
    ap (λ l. join (items_view l) (acts_then (open_acts (i + 1) (128 - (i + 1))) no_more)) n
    ∙ view_pushed items x (acts_then (open_acts (i + 1) (128 - (i + 1))) no_more)
    ∙ ap (λ y. join (items_view items) (first y (acts_then (open_acts (i + 1) (128 - (i + 1))) no_more))) e
    ∙ ap (λ j. join (items_view items) (first (step_item (run_act (open_place i))) (acts_then (open_acts j (128 - (i + 1))) no_more))) (add-one i)
    ∙ ap (λ j. join (items_view items) (acts_then (open_acts i j) no_more)) (sym s)
    ∙ k

pub places_done : (items : List Item) (i : ℕ) (whole : Items) → 128 ≤ i → join (items_view items) (acts_then (open_acts i (128 - i)) no_more) ≡ whole → items_view items ≡ whole
places_done items i whole h k =
    let s : 128 - i ≡ 0 = omega arith in
    sym (join_none (items_view items)) ∙ ap (λ j. join (items_view items) (acts_then (open_acts i j) no_more)) (sym s) ∙ k
