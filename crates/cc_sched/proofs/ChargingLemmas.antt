-- Charges are put before items one after the other.
use Rattle.std.proofs.Common.{◌≡◌, ℕ, ◌+◌, List, [], ◌∷◌, ◌++◌, refl, sym, ap, ◌∙◌}
use Rattle.std.specs.Prelude.{Option, None, Some}
use Rattle.mc_cmd.specs.Form.{Text}
use Rattle.cc_line.specs.declared.item.Item.{Item}
use Rattle.cc_line.specs.declared.step.Conds.{Conds}
use Rattle.cc_line.specs.declared.step.Step.{Step}
use Rattle.cc_line.specs.Item.{Items, step_item, call_item, call_when, fill_item, fill_when, no_more, first, join, steps_items}
use Rattle.cc_line.specs.Item as spec
use Rattle.cc_line.specs.OpenStep.{OpenStep}
use Rattle.cc_line.specs.State.{Site}
use Rattle.cc_line.specs.Step.{run_act, when, stop_when}
use Rattle.cc_line.specs.View.{call_from, fill_from, item_view, items_view, step_view, steps_view}
use Rattle.cc_line.proofs.ItemViewLemmas.{join_none, join_assoc, view_joined, view_pushed}
use Rattle.cc_sched.specs.Charge.{charge, round_weight, take_charge}
use Rattle.cc_sched.specs.steps.Charging.{owed, with_charge}

-- the first item with its charge, and then the others with theirs
charge_first : (n : ℕ) (x : spec.Item) (xs : Items) → charge n (first x xs) ≡ join (with_charge n x) (charge (owed n x) xs)
charge_first n (step_item (run_act a)) xs = refl
charge_first n (step_item (when cs a)) xs = refl
charge_first n (step_item (stop_when cs)) xs = refl
charge_first n (call_item f ys) xs = refl
charge_first n (call_when cs f ys) xs = refl
charge_first n (fill_item f p ys) xs = refl
charge_first n (fill_when cs f p ys) xs = refl

-- calls of helpers stand as they are
pub call_alone : (n : ℕ) (cs : Option Conds) (f : Text) (xs : Items) → with_charge n (call_from cs f xs) ≡ first (call_from cs f xs) no_more
call_alone n None f xs = refl
call_alone n (Some cs) f xs = refl

pub fill_alone : (n : ℕ) (cs : Option Conds) (f : Text) (p : Site) (xs : List OpenStep) → with_charge n (fill_from cs f p xs) ≡ first (fill_from cs f p xs) no_more
fill_alone n None f p xs = refl
fill_alone n (Some cs) f p xs = refl

pub call_owed : (n : ℕ) (cs : Option Conds) (f : Text) (xs : Items) → owed n (call_from cs f xs) ≡ n + spec.item_most (call_from cs f xs)
call_owed n None f xs = refl
call_owed n (Some cs) f xs = refl

pub fill_owed : (n : ℕ) (cs : Option Conds) (f : Text) (p : Site) (xs : List OpenStep) → owed n (fill_from cs f p xs) ≡ n + spec.item_most (fill_from cs f p xs)
fill_owed n None f p xs = refl
fill_owed n (Some cs) f p xs = refl

-- what was put out for the items so far, whatever follows
abbrev pub PutFor : List Item → ℕ → List Item → Type 0
PutFor done n out = (ys : Items) → join (items_view out) (charge n ys) ≡ charge round_weight (join (items_view done) ys)

pub none_put : (out : List Item) → out ≡ [] → PutFor [] round_weight out
none_put out e ys = ap (λ t. join (items_view t) (charge round_weight ys)) e

pub put_on : (done : List Item) (x : Item) (n k : ℕ) (out now : List Item) → PutFor done n out → k ≡ owed n (item_view x) → items_view now ≡ join (items_view out) (with_charge n (item_view x)) → PutFor (done ++ (x ∷ [])) k now
put_on done x n k out now h e v ys =
    ap (λ t. join t (charge k ys)) v
    ∙ join_assoc (items_view out) (with_charge n (item_view x)) (charge k ys)
    ∙ ap (λ j. join (items_view out) (join (with_charge n (item_view x)) (charge j ys))) e
    ∙ ap (join (items_view out)) (sym (charge_first n (item_view x) ys))
    ∙ h (first (item_view x) ys)
    ∙ ap (charge round_weight) (sym (view_pushed done x ys))

-- and at the end the charge of the end
pub all_put : (done all : List Item) (n k : ℕ) (out : List Item) (now : Items) (x : Step) → PutFor done n out → done ≡ all → k ≡ n + 1 → now ≡ join (items_view out) (steps_items (steps_view (x ∷ []))) → step_item (step_view x) ≡ take_charge k → now ≡ charge round_weight (items_view all)
all_put done all n k out now x h w j e v =
    e
    ∙ ap (λ y. join (items_view out) (first y no_more)) v
    ∙ ap (λ i. join (items_view out) (first (take_charge i) no_more)) j
    ∙ h no_more
    ∙ ap (charge round_weight) (join_none (items_view done))
    ∙ ap (λ t. charge round_weight (items_view t)) w

-- a block of one item is added to others
pub one_added : (out alone more now : List Item) (x : Item) → now ≡ out ++ more → items_view more ≡ items_view alone → alone ≡ x ∷ [] → items_view now ≡ join (items_view out) (first (item_view x) no_more)
one_added out alone more now x e f g =
    ap items_view e
    ∙ view_joined out more
    ∙ ap (join (items_view out)) (f ∙ ap items_view g)
