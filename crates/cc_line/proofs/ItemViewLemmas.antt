-- What lists of items show, one after the other.
use Rattle.std.proofs.Common.{◌≡◌, List, [], ◌∷◌, ◌++◌, refl, sym, ap, ◌∙◌, rules}
use Rattle.std.specs.Prelude.{Option, Vec}
use Rattle.std.specs.declared.alloc.Global.{Global}
use Rattle.cc_line.specs.declared.item.Item.{Item, the_lemmas}
use Rattle.cc_line.specs.declared.item.Item.TheVariants as items
use Rattle.cc_line.specs.declared.name.Name.{Name}
use Rattle.cc_line.specs.declared.open_step.OpenStep.{OpenStep}
use Rattle.cc_line.specs.declared.site.Site.{Site}
use Rattle.cc_line.specs.declared.step.Conds.{Conds}
use Rattle.cc_line.specs.declared.step.Step.{Step}
use Rattle.cc_line.specs.Item.{Items, step_item, no_more, first, join, steps_items}
use Rattle.cc_line.specs.View.{fill_from, item_view, items_view, name_text, open_steps_view, site_view, step_view, steps_view}

pub join_none : (xs : Items) → join xs no_more ≡ xs
join_none no_more = refl
join_none (first x xs) = ap (first x) (join_none xs)

pub join_assoc : (xs ys zs : Items) → join (join xs ys) zs ≡ join xs (join ys zs)
join_assoc no_more ys zs = refl
join_assoc (first x xs) ys zs = ap (first x) (join_assoc xs ys zs)

pub view_joined : (xs ys : List Item) → items_view (xs ++ ys) ≡ join (items_view xs) (items_view ys)
view_joined [] ys = refl
view_joined (x ∷ xs) ys = ap (first (item_view x)) (view_joined xs ys)

-- one more item, before others
pub view_pushed : (xs : List Item) (x : Item) (ys : Items) → join (items_view (xs ++ (x ∷ []))) ys ≡ join (items_view xs) (first (item_view x) ys)
view_pushed [] x ys = refl
view_pushed (y ∷ xs) x ys = ap (first (item_view y)) (view_pushed xs x ys)

-- ---- what each kind of item shows

pub step_shows : (x : Step) → item_view (items.Step x) ≡ step_item (step_view x)
step_shows x = search (rules, the_lemmas)

pub fill_shows : (cs : Option Conds) (f : Name) (p : Site) (xs : Vec OpenStep Global) → item_view (items.Fill cs f p xs) ≡ fill_from cs (name_text f) (site_view p) (open_steps_view xs.items)
fill_shows cs f p xs = search (rules, the_lemmas)

-- the first step is added, and then the others
pub steps_go_on : (here now : List Item) (x : Step) (ss ts : List Step) (whole : Items) → ss ≡ x ∷ ts → items_view now ≡ join (items_view here) (first (item_view (items.Step x)) no_more) → join (items_view here) (steps_items (steps_view ss)) ≡ whole → join (items_view now) (steps_items (steps_view ts)) ≡ whole
steps_go_on here now x ss ts whole e n h =
    ap (λ v. join v (steps_items (steps_view ts))) n
    ∙ join_assoc (items_view here) (first (item_view (items.Step x)) no_more) (steps_items (steps_view ts))
    ∙ ap (λ y. join (items_view here) (first y (steps_items (steps_view ts)))) (step_shows x)
    ∙ ap (λ t. join (items_view here) (steps_items (steps_view t))) (sym e) ∙ h

pub steps_done : (here : List Item) (ss : List Step) (whole : Items) → ss ≡ [] → join (items_view here) (steps_items (steps_view ss)) ≡ whole → items_view here ≡ whole
steps_done here ss whole e h = sym (join_none (items_view here)) ∙ ap (λ t. join (items_view here) (steps_items (steps_view t))) (sym e) ∙ h
