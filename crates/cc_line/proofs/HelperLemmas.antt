-- Helpers each once: how they are found one after the other, and that they are all.
use Rattle.std.proofs.Common.{◌≡◌, List, [], ◌∷◌, ◌++◌, Bool, true, false, refl, sym, ap, ◌∙◌}
use Rattle.std.specs.Prelude.{Some, ◌||◌, if◌then◌else◌}
use Rattle.std.specs.Str.{bytes_eq}
use Rattle.std.proofs.lemmas.Slice.Eq.{bytes_eq-Decides}
use Rattle.mc_cmd.specs.Form.{Text}
use Rattle.mc_cmd.specs.Chain.{Functions}
use Rattle.mc_cmd.specs.Layout.{full_name}
use Rattle.cc_line.specs.declared.item.Item.{Item}
use Rattle.cc_line.specs.Item.{Helper, HasAll, item_helpers, items_helpers}
use Rattle.cc_line.specs.Helpers.{has_helper, with_helper, with_helpers, each_once, HasLines, AreOne}
use Rattle.cc_line.specs.View.{item_view, items_view}

-- helpers that are added one after the other
added_one_by_one : (hs xs ys : List Helper) → with_helpers hs (xs ++ ys) ≡ with_helpers (with_helpers hs xs) ys
added_one_by_one hs [] ys = refl
added_one_by_one hs (x ∷ xs) ys = added_one_by_one (with_helper hs x) xs ys

-- the helpers of the first item are added, and then those of the others
pub helpers_go_on : (hs now whole : List Helper) (ns : Text) (x : Item) (ys xs : List Item) → ys ≡ x ∷ xs → now ≡ with_helpers hs (item_helpers ns (item_view x)) → with_helpers hs (items_helpers ns (items_view ys)) ≡ whole → with_helpers now (items_helpers ns (items_view xs)) ≡ whole
helpers_go_on hs now whole ns x ys xs e n h =
    ap (λ t. with_helpers t (items_helpers ns (items_view xs))) n
    ∙ sym (added_one_by_one hs (item_helpers ns (item_view x)) (items_helpers ns (items_view xs)))
    ∙ ap (λ t. with_helpers hs (items_helpers ns (items_view t))) (sym e) ∙ h

-- ---- each once is enough

module _ (functions : Functions) (ns : Text) where
  front : (hs ys : List Helper) → HasAll functions ns (hs ++ ys) → HasAll functions ns hs
  front [] ys a = tt
  front (h ∷ hs) ys a = (a.0, front hs ys a.1)

  last : (hs : List Helper) (x : Helper) → HasAll functions ns (hs ++ (x ∷ [])) → functions (full_name ns x.name) ≡ Some x.lines
  last [] x a = a.0
  last (h ∷ hs) x a = last hs x a.1

  kept : (hs xs : List Helper) → HasAll functions ns (with_helpers hs xs) → HasAll functions ns hs
  kept hs [] a = a
  kept hs (x ∷ xs) a = go (has_helper x.name hs) (kept (with_helper hs x) xs a)
    where
      go : (b : Bool) → HasAll functions ns (if b then hs else hs ++ (x ∷ [])) → HasAll functions ns hs
      go true h = h
      go false h = front hs (x ∷ []) h

  found : (hs : List Helper) (x : Helper) → has_helper x.name hs ≡ true → HasLines x hs → HasAll functions ns hs → functions (full_name ns x.name) ≡ Some x.lines
  found [] x e l a = absurd (let f : true ≡ false = sym e in cc)
  found (h ∷ hs) x e l a = go (bytes_eq h.name x.name) refl (λ f. found hs x f l.1 a.1)
    where
      go : (b : Bool) → bytes_eq h.name x.name ≡ b → (has_helper x.name hs ≡ true → functions (full_name ns x.name) ≡ Some x.lines) → functions (full_name ns x.name) ≡ Some x.lines
      go true k more = ap (λ n. functions (full_name ns n)) (sym ((bytes_eq-Decides h.name x.name).0 k)) ∙ a.0 ∙ ap Some (l.0 k)
      go false k more = more (sym (ap (λ b. b || has_helper x.name hs) k) ∙ e)

-- those that are there agree with those that are to come
abbrev AllAgree : List Helper → List Helper → Type 0
AllAgree hs [] = Unit {0}
AllAgree hs (x ∷ xs) = HasLines x hs × AllAgree hs xs

none_agree : (xs : List Helper) → AllAgree [] xs
none_agree [] = tt
none_agree (x ∷ xs) = (tt, none_agree xs)

turned : (f g : Text) → bytes_eq f g ≡ true → bytes_eq g f ≡ true
turned f g e = let p : f ≡ g = (bytes_eq-Decides f g).0 e in ap (λ t. bytes_eq t f) (sym p) ∙ ap (λ t. bytes_eq f t) p ∙ e

has_lines : (x y : Helper) (hs : List Helper) → HasLines y hs → (bytes_eq y.name x.name ≡ true → y.lines ≡ x.lines) → HasLines y (hs ++ (x ∷ []))
has_lines x y [] l e = ((λ k. sym (e (turned x.name y.name k))), tt)
has_lines x y (h ∷ hs) l e = (l.0, has_lines x y hs l.1 e)

agree_on : (x : Helper) (hs xs : List Helper) → AllAgree hs xs → HasLines x xs → AllAgree (with_helper hs x) xs
agree_on x hs [] a l = tt
agree_on x hs (y ∷ xs) a l = (go (has_helper x.name hs), agree_on x hs xs a.1 l.1)
  where
    go : (b : Bool) → HasLines y (if b then hs else hs ++ (x ∷ []))
    go true = a.0
    go false = has_lines x y hs a.0 l.0

all_found : (functions : Functions) (ns : Text) (hs xs : List Helper) → AllAgree hs xs → AreOne xs → HasAll functions ns (with_helpers hs xs) → HasAll functions ns xs
all_found functions ns hs [] a o h = tt
all_found functions ns hs (x ∷ xs) a o h = (there (has_helper x.name hs) refl (kept functions ns (with_helper hs x) xs h), all_found functions ns (with_helper hs x) xs (agree_on x hs xs a.1 o.0) o.1 h)
  where
    there : (b : Bool) → has_helper x.name hs ≡ b → HasAll functions ns (if b then hs else hs ++ (x ∷ [])) → functions (full_name ns x.name) ≡ Some x.lines
    there true e k = found functions ns hs x e a.0 k
    there false e k = last functions ns hs x k

-- a pack that has each of the helpers once has them all
pub once_is_all : (functions : Functions) (ns : Text) (hs : List Helper) → AreOne hs → HasAll functions ns (each_once hs) → HasAll functions ns hs
once_is_all functions ns hs o h = all_found functions ns [] hs (none_agree hs) o h
