-- The names that are shown in a folder, found path by path.
use Rattle.std.proofs.Common.{◌≡◌, ◌≢◌, ◌==◌, ◌∙◌, sym, ap, subst, refl, ℕ, suc, ◌<◌, Bool, true, false, cond, List, [], ◌∷◌, ◌++◌, length, get_or, ◌↔◌, ◌⊎◌, inl, inr, zero, arith}
use Rattle.std.proofs.lemmas.Bool.Decides.{nat_tests}
use Rattle.std.proofs.lemmas.List.{append_cancel_left}
use Rattle.std.proofs.lemmas.Map.Lookups.{exact_bytes}
use Rattle.std.proofs.lemmas.Map.Views.{btree_map_contains_key_iff, btree_set_contains_iff, tells_apart}
use Rattle.std.specs.BTreeMap.{BTreeMap, keys}
use Rattle.std.specs.BTreeMap as tree
use Rattle.std.specs.BTreeSet.{BTreeSet, contains, Updates}
use Rattle.std.specs.Cmp.Lexicographic.{slice_cmp, nat_list_cmp_total}
use Rattle.std.specs.List.{Contains}
use Rattle.std.specs.Option.{is_some}
use Rattle.std.specs.Ordering.{nat_cmp}
use Rattle.mc_nbt.specs.Finite.{as_map}
use Rattle.io_dev.proofs.FilesAsMap.{get_file}
use Rattle.io_dev.specs.Names.{first_part, IsListing, IsShown, Shows}

-- a test for `/` that fails
not_slash : (c : ℕ) (rest : List ℕ) → c ≢ 47 → cond (c == 47) [] rest ≡ rest
not_slash c rest apart = grind (arith, nat_tests)

-- a text without `/` is its own first part
pub first_part-whole : (text : List ℕ) → ((i : ℕ) → i < length text → get_or text i 0 ≢ 47) → first_part text ≡ text
first_part-whole [] free = refl
first_part-whole (c ∷ text) free =
    ap (λ rest. c ∷ rest) (not_slash c (first_part text) (free 0 (omega arith)) ∙ first_part-whole text (λ i below. free (suc i) (omega arith)))

-- the first part of a text ends at the first `/`
pub first_part-folder : (front back : List ℕ) → ((i : ℕ) → i < length front → get_or front i 0 ≢ 47) → first_part (front ++ 47 ∷ back) ≡ front ++ 47 ∷ []
first_part-folder [] back free = refl
first_part-folder (c ∷ front) back free =
    ap (λ rest. c ∷ rest) (not_slash c (first_part (front ++ 47 ∷ back)) (free 0 (omega arith)) ∙ first_part-folder front back (λ i below. free (suc i) (omega arith)))

-- a path shows one name
pub same_name : (dir path a b : List ℕ) → Shows dir path a → Shows dir path b → a ≡ b
same_name dir path a b shows_a shows_b =
    let rests : 47 ∷ shows_a.rest ≡ 47 ∷ shows_b.rest = append_cancel_left dir _ _ (sym shows_a.is_below ∙ shows_b.is_below) in
    let same : shows_a.rest ≡ shows_b.rest = cc in
    shows_a.is_first ∙ ap first_part same ∙ sym shows_b.is_first

-- where the text behind a prefix doesn't begin with `/`, nothing stands behind the prefix and `/`
pub no_rest : (dir path tail : List ℕ) → path ≡ dir ++ tail → ((rest : List ℕ) → tail ≢ 47 ∷ rest) → (rest : List ℕ) → path ≡ dir ++ 47 ∷ rest → rest ≡ []
no_rest dir path tail is_text apart rest is_below =
    absurd (apart rest (append_cancel_left dir _ _ (sym is_text ∙ is_below)))

-- one of the paths shows the name
abbrev pub AnyShows : List ℕ → List (List ℕ) → List ℕ → Type 0
AnyShows dir [] name = ⊥
AnyShows dir (path ∷ paths) name = Shows dir path name ⊎ AnyShows dir paths name

-- the names so far and those that the paths left show are those that all the paths show
pub record Gathers (dir : List ℕ) (names : BTreeSet (List ℕ)) (left all : List (List ℕ)) : Type 0 where
  pub shown : (name : List ℕ) → (contains (slice_cmp nat_cmp) names name ≡ true) ⊎ AnyShows dir left name → AnyShows dir all name
  pub found : (name : List ℕ) → AnyShows dir all name → (contains (slice_cmp nat_cmp) names name ≡ true) ⊎ AnyShows dir left name

-- a look-up that answers yes after an insertion did before it, or is at the new key
by_test : (at_key before : Bool) → cond at_key true before ≡ true → (at_key ≡ true) ⊎ (before ≡ true)
by_test true before is = inl refl
by_test false before is = inr is

-- a key stays where another is inserted
stays : (at_key before : Bool) → before ≡ true → cond at_key true before ≡ true
stays true before is = refl
stays false before is = is

-- a path that shows a name adds that one
pub gathers_one : (dir : List ℕ) (names more : BTreeSet (List ℕ)) (path shown : List ℕ) (left all : List (List ℕ)) → Shows dir path shown → Updates (slice_cmp nat_cmp) names more shown true → Gathers dir names (path ∷ left) all → Gathers dir more left all
gathers_one dir names more path shown left all shows updates before = record {
  shown = λ name. elim [ inl in_more ↦ before.shown name (was_there name in_more) | inr in_left ↦ before.shown name (inr (inr in_left)) ];
  found = λ name any. elim (before.found name any) [ inl in_names ↦ inl (updates.0 name ∙ stays _ _ in_names) | inr now ↦ elim now [ inl here ↦ inl (subst (λ key. contains (slice_cmp nat_cmp) more key ≡ true) (same_name dir path shown name shows here) updates.1) | inr later ↦ inr later ] ];
} where
  was_there : (name : List ℕ) → contains (slice_cmp nat_cmp) more name ≡ true → (contains (slice_cmp nat_cmp) names name ≡ true) ⊎ AnyShows dir (path ∷ left) name
  was_there name in_more =
      elim (by_test _ _ (sym (updates.0 name) ∙ in_more)) [ inl same ↦ inr (inl (subst (λ key. Shows dir path key) (tells_apart exact_bytes shown name same) shows)) | inr old ↦ inl old ]

-- what one of the paths shows is shown by a path at some place
at_place : (dir : List ℕ) (paths : List (List ℕ)) (name : List ℕ) → AnyShows dir paths name → (path : List ℕ) × Contains paths path × Shows dir path name
at_place dir [] name any = absurd any
at_place dir (path ∷ paths) name (inl shows) = (path, (0, omega arith, refl), shows)
at_place dir (path ∷ paths) name (inr any) =
    let rest = at_place dir paths name any in
    (rest.0, (suc rest.1.0, omega (arith, rest.1.1), rest.1.2), rest.2)

-- the same the other way round
from_place : (dir : List ℕ) (paths : List (List ℕ)) (path name : List ℕ) (place : ℕ) → place < length paths → get_or paths place path ≡ path → Shows dir path name → AnyShows dir paths name
from_place dir [] path name place below is shows = absurd (omega arith)
from_place dir (first ∷ paths) path name zero below is shows = inl (subst (λ key. Shows dir key name) (sym is) shows)
from_place dir (first ∷ paths) path name (suc place) below is shows = inr (from_place dir paths path name place (omega arith) is shows)

-- once no path is left, the names are those of the listing
pub listing : (dir : List ℕ) (names : BTreeSet (List ℕ)) (files : BTreeMap (List ℕ) (List ℕ)) → Gathers dir names [] (keys files) → IsListing (as_map (slice_cmp nat_cmp) files) dir names.keys
listing dir names files all name = (to, from) where
  in_set : (contains (slice_cmp nat_cmp) names name ≡ true) ↔ Contains names.keys name
  in_set = btree_set_contains_iff nat_list_cmp_total exact_bytes names name

  in_files : (path : List ℕ) → (is_some (tree.get (slice_cmp nat_cmp) files path) ≡ true) ↔ Contains (keys files) path
  in_files path = btree_map_contains_key_iff nat_list_cmp_total exact_bytes files path

  to : Contains names.keys name → IsShown (as_map (slice_cmp nat_cmp) files) dir name
  to stands =
      let path = at_place dir (keys files) name (all.shown name (inl (in_set.1 stands))) in
      (path.0, ap is_some (get_file files path.0) ∙ (in_files path.0).1 path.1, path.2)

  from : IsShown (as_map (slice_cmp nat_cmp) files) dir name → Contains names.keys name
  from is_shown =
      let stands = (in_files is_shown.0).0 (sym (ap is_some (get_file files is_shown.0)) ∙ is_shown.1) in
      elim (all.found name (from_place dir (keys files) is_shown.0 name stands.0 stands.1 stands.2 is_shown.2)) [ inl in_names ↦ in_set.0 in_names | inr any ↦ absurd any ]
