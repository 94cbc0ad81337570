-- How a pack of functions, no two of which have one name, finds each.
use Rattle.std.proofs.Common.{◌≡◌, ◌∙◌, ap, refl, sym, ◌⊎◌, inl, inr, List, [], ◌∷◌, ◌++◌, map, Bool, true, false, Some, None}
use Rattle.std.specs.Prelude.{is_none, if◌then◌else◌}
use Rattle.std.specs.Map.{lookup}
use Rattle.std.specs.Str.{bytes_eq}
use Rattle.std.proofs.lemmas.Slice.Eq.{bytes_eq-Decides}
use Rattle.mc_nbt.proofs.TreeLemmas.{bytes_refl}
use Rattle.mc_cmd.specs.declared.pack.Index.{Index}
use Rattle.mc_cmd.specs.Form.{Text}
use Rattle.mc_cmd.specs.Layout.{full_name}
use Rattle.mc_cmd.specs.Packing.{names_differ, pack_view, Written}
use Rattle.mc_cmd.proofs.FormLemmas.{and_both}
use Rattle.mc_cmd.proofs.PackLemmas.{function_at}
use Rattle.cc_line.specs.Item.{HasAll, Helper}
use Rattle.cc_text.proofs.OnceLemmas.{Distinct, NoneNamed}
use Rattle.pk_link.specs.Functions.{entry}

-- ---- as a pack tests it

pub none_found : (n : Text) (hs : List Helper) → NoneNamed n hs → lookup (bytes_eq n) (map entry hs) ≡ None
none_found n [] h = refl
none_found n (x ∷ xs) h = ap (λ b. if b then Some x.lines else lookup (bytes_eq n) (map entry xs)) h.0 ∙ none_found n xs h.1

pub distinct_differ : (hs : List Helper) → Distinct hs → names_differ (map entry hs) ≡ true
distinct_differ [] d = refl
distinct_differ (h ∷ hs) d = and_both _ _ (ap is_none (none_found h.name hs d.0)) (distinct_differ hs d.1)

-- ---- finding

pub turned : (f g : Text) → bytes_eq g f ≡ false → bytes_eq f g ≡ false
turned f g e = go (bytes_eq f g) refl
  where
    go : (b : Bool) → bytes_eq f g ≡ b → b ≡ false
    go false k = refl
    go true k = sym (sym (ap (λ t. bytes_eq t f) ((bytes_eq-Decides f g).0 k) ∙ e) ∙ bytes_refl f)

-- two texts that aren't one
pub differ : (f g : Text) → (f ≡ g → ⊥) → bytes_eq f g ≡ false
differ f g other = go (bytes_eq f g) refl
  where
    go : (b : Bool) → bytes_eq f g ≡ b → b ≡ false
    go false k = refl
    go true k = absurd (other ((bytes_eq-Decides f g).0 k))

abbrev pub In : Helper → List Helper → Type 0
In h [] = ⊥
In h (x ∷ xs) = (h ≡ x) ⊎ In h xs

pub in_front : (h : Helper) (xs ys : List Helper) → In h xs → In h (xs ++ ys)
in_front h [] ys i = absurd i
in_front h (x ∷ xs) ys (inl e) = inl e
in_front h (x ∷ xs) ys (inr i) = inr (in_front h xs ys i)

pub in_back : (h : Helper) (xs ys : List Helper) → In h ys → In h (xs ++ ys)
in_back h [] ys i = i
in_back h (x ∷ xs) ys i = inr (in_back h xs ys i)

none_at : (n : Text) (h : Helper) (hs : List Helper) → NoneNamed n hs → In h hs → bytes_eq n h.name ≡ false
none_at n h [] a i = absurd i
none_at n h (x ∷ xs) a (inl e) = ap (λ (y : Helper). bytes_eq n y.name) e ∙ a.0
none_at n h (x ∷ xs) a (inr i) = none_at n h xs a.1 i

found_at : (h : Helper) (hs : List Helper) → Distinct hs → In h hs → lookup (bytes_eq h.name) (map entry hs) ≡ Some h.lines
found_at h [] d i = absurd i
found_at h (x ∷ xs) d (inl e) =
    ap (λ (y : Helper). lookup (bytes_eq y.name) (map entry (x ∷ xs))) e
    ∙ ap (λ b. if b then Some x.lines else lookup (bytes_eq x.name) (map entry xs)) (bytes_refl x.name)
    ∙ ap (λ (y : Helper). Some y.lines) (sym e)
found_at h (x ∷ xs) d (inr i) =
    ap (λ b. if b then Some x.lines else lookup (bytes_eq h.name) (map entry xs)) (turned h.name x.name (none_at x.name h xs d.0 i)) ∙ found_at h xs d.1 i

-- a pack that has just these functions
abbrev pub packed : Index → List Helper → Written
packed index hs = record { index = index; functions = map entry hs }

module _ (index : Index) (all : List Helper) (d : Distinct all) where
  pub has : (h : Helper) → In h all → (pack_view (packed index all)).functions (full_name index.ns h.name) ≡ Some h.lines
  has h i = function_at (packed index all) h.name ∙ found_at h all d i

  pub has_all : (hs : List Helper) → ((h : Helper) → In h hs → In h all) → HasAll (pack_view (packed index all)).functions index.ns hs
  has_all [] f = tt
  has_all (h ∷ hs) f = (has h (f h (inl refl)), has_all hs (λ x i. f x (inr i)))
