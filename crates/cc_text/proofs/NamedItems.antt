-- Items that call helpers of names in a list alone.
use Rattle.std.proofs.Common.{◌≡◌, List, [], ◌∷◌, ◌++◌, refl, Bool, true, false, Some}
use Rattle.std.specs.Prelude.{if◌then◌else◌}
use Rattle.std.specs.List.{list_all}
use Rattle.mc_cmd.specs.Form.{Text}
use Rattle.mc_cmd.specs.Word.{is_function_name}
use Rattle.mc_cmd.proofs.FormLemmas.{and_both, and_first, and_second}
use Rattle.cc_line.specs.Fit.{conds_fit}
use Rattle.cc_line.specs.Item.{call_item, call_when, fill_item, fill_when, first, Helper, Item, item_fits, item_helpers, Items, items_fit, items_helpers, items_texts, join, no_more, step_item, steps_items}
use Rattle.cc_text.specs.Tables.{AreNamed, IsWithin, ItemNamed, ItemsNamed, lines_named, NamedHelper}
use Rattle.cc_line.specs.OpenStep.{open_texts, OpenStep}
use Rattle.cc_line.specs.State.{Site}
use Rattle.cc_line.specs.Step.{Cond, Step}

-- a step calls none
pub no_helper : (ns : Text) → Unit {0}
no_helper ns = tt

module _ (all : List NamedHelper) where
  pub helpers_both : (ns : Text) (xs ys : List Helper) → AreNamed all ns xs → AreNamed all ns ys → AreNamed all ns (xs ++ ys)
  helpers_both ns [] ys a b = b
  helpers_both ns (x ∷ xs) ys a b = (a.0, helpers_both ns xs ys a.1 b)

  pub named_steps : (xs : List Step) → ItemsNamed all (steps_items xs)
  named_steps [] = tt
  named_steps (x ∷ xs) = (no_helper, named_steps xs)

  pub named_both : (xs ys : Items) → ItemsNamed all xs → ItemsNamed all ys → ItemsNamed all (join xs ys)
  named_both no_more ys a b = b
  named_both (first x xs) ys a b = (a.0, named_both xs ys a.1 b)

  pub named_either : (c : Bool) (xs ys : Items) → ItemsNamed all xs → ItemsNamed all ys → ItemsNamed all (if c then xs else ys)
  named_either true xs ys a b = a
  named_either false xs ys a b = b

  pub helpers_named : (ns : Text) (xs : Items) → ItemsNamed all xs → AreNamed all ns (items_helpers ns xs)
  helpers_named ns no_more a = tt
  helpers_named ns (first x xs) a = helpers_both ns (item_helpers ns x) (items_helpers ns xs) (a.0 ns) (helpers_named ns xs a.1)

  -- calls, of items whose own helpers have such names
  pub named_call : (own : List NamedHelper) (w : IsWithin own all) (f : Text) (xs : Items) → ((ns : Text) → lines_named own ns f ≡ Some (items_texts ns xs)) → ItemsNamed all xs → ItemNamed all (call_item f xs)
  named_call own w f xs e k ns = (w ns f _ (e ns), helpers_named ns xs k)

  pub named_call_when : (own : List NamedHelper) (w : IsWithin own all) (cs : List Cond) (f : Text) (xs : Items) → ((ns : Text) → lines_named own ns f ≡ Some (items_texts ns xs)) → ItemsNamed all xs → ItemNamed all (call_when cs f xs)
  named_call_when own w cs f xs e k ns = (w ns f _ (e ns), helpers_named ns xs k)

  pub named_fill : (own : List NamedHelper) (w : IsWithin own all) (f : Text) (p : Site) (xs : List OpenStep) → ((ns : Text) → lines_named own ns f ≡ Some (open_texts ns xs)) → ItemNamed all (fill_item f p xs)
  named_fill own w f p xs e ns = (w ns f _ (e ns), tt)

  pub named_fill_when : (own : List NamedHelper) (w : IsWithin own all) (cs : List Cond) (f : Text) (p : Site) (xs : List OpenStep) → ((ns : Text) → lines_named own ns f ≡ Some (open_texts ns xs)) → ItemNamed all (fill_when cs f p xs)
  named_fill_when own w cs f p xs e ns = (w ns f _ (e ns), tt)

-- where the names of one list are within another
pub helpers_within : (own all : List NamedHelper) → IsWithin own all → (ns : Text) (hs : List Helper) → AreNamed own ns hs → AreNamed all ns hs
helpers_within own all w ns [] a = tt
helpers_within own all w ns (h ∷ hs) a = (w ns h.name h.lines a.0, helpers_within own all w ns hs a.1)

pub items_within : (own all : List NamedHelper) → IsWithin own all → (xs : Items) → ItemsNamed own xs → ItemsNamed all xs
items_within own all w no_more a = tt
items_within own all w (first x xs) a = ((λ ns. helpers_within own all w ns (item_helpers ns x) (a.0 ns)), items_within own all w xs a.1)

-- ---- the helpers of items that fit have names of functions

pub both_functions : (xs ys : List Helper) → list_all (λ h. is_function_name h.name) xs ≡ true → list_all (λ h. is_function_name h.name) ys ≡ true → list_all (λ h. is_function_name h.name) (xs ++ ys) ≡ true
both_functions [] ys a b = b
both_functions (x ∷ xs) ys a b = and_both (is_function_name x.name) _ (and_first (is_function_name x.name) _ a) (both_functions xs ys (and_second (is_function_name x.name) _ a) b)

mutual
  item_functions : (ns : Text) (x : Item) → item_fits x ≡ true → list_all (λ h. is_function_name h.name) (item_helpers ns x) ≡ true
  item_functions ns (step_item x) f = refl
  item_functions ns (call_item g xs) f = and_both (is_function_name g) _ (and_first (is_function_name g) _ f) (items_functions ns xs (and_second (is_function_name g) _ f))
  item_functions ns (call_when cs g xs) f =
      let k = and_second (conds_fit cs) _ f in
      and_both (is_function_name g) _ (and_first (is_function_name g) _ k) (items_functions ns xs (and_second (is_function_name g) _ k))
  item_functions ns (fill_item g p xs) f = and_both (is_function_name g) _ (and_first (is_function_name g) _ f) refl
  item_functions ns (fill_when cs g p xs) f = and_both (is_function_name g) _ (and_first (is_function_name g) _ (and_second (conds_fit cs) _ f)) refl

  pub items_functions : (ns : Text) (xs : Items) → items_fit xs ≡ true → list_all (λ h. is_function_name h.name) (items_helpers ns xs) ≡ true
  items_functions ns no_more f = refl
  items_functions ns (first x xs) f =
      both_functions (item_helpers ns x) (items_helpers ns xs) (item_functions ns x (and_first (item_fits x) _ f)) (items_functions ns xs (and_second (item_fits x) _ f))
