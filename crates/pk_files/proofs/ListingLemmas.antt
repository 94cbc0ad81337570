-- Each folder has a listing.
use Rattle.std.proofs.Common.{◌≡◌, ◌∙◌, sym, ap, refl, inl, inr, ◌⊎◌, List, [], ◌∷◌, ◌++◌, Bool, true, false, cond, Option, Some, None, map, append_assoc}
use Rattle.std.specs.Prelude.{◌&&◌, Contains, is_some, option_and_then, T}
use Rattle.std.specs.List.{AllByRecursion, list_any}
use Rattle.std.specs.List.Sorted.{IsStrictlySortedBy}
use Rattle.std.specs.Ordering.{nat_cmp, eq_by_cmp, is_eq, is_lt}
use Rattle.std.specs.declared.cmp.Ordering.{Ordering}
use Rattle.std.specs.declared.cmp.Ordering.TheVariants.{Less, Equal, Greater}
use Rattle.std.specs.Cmp.Lexicographic.{slice_cmp, nat_list_cmp_total}
use Rattle.std.specs.FinMap.{FinMap, contains_key-keys, empty, entries, entries_sorted, find, get, get-empty, get-entries, get-insert, insert, is_sorted, keys}
use Rattle.std.proofs.lemmas.Cmp.{eq_by_cmp_equiv, tied_itself}
use Rattle.std.proofs.lemmas.Map.Lookups.{exact_bytes}
use Rattle.std.proofs.lemmas.Map.Views.{Contains-from_any, list_any-from_Contains, tells_apart}
use Rattle.io_dev.specs.Folder.{Folder}
use Rattle.io_dev.specs.Names.{IsListing, IsRising, IsShown, Shows, first_part}
use Rattle.mc_cmd.specs.Chain.{Texts}
use Rattle.mc_cmd.specs.Form.{Text, strip}
use Rattle.mc_cmd.proofs.FormLemmas.{and_then_some, strip_spells, strip_text}

-- the name that a path shows
abbrev first_of_rest : Text → Option Text
first_of_rest [] = None
first_of_rest (b ∷ t) = Some (first_part (b ∷ t))

abbrev shown_at : Text → Text → Option Text
shown_at dir path = option_and_then first_of_rest (strip (dir ++ (47 ∷ [])) path)

shown_shows : (dir path name : Text) → shown_at dir path ≡ Some name → Shows dir path name
shown_shows dir path name e =
    let p = and_then_some first_of_rest (strip (dir ++ (47 ∷ [])) path) name e in
    go p.0 (strip_spells (dir ++ (47 ∷ [])) path p.0 p.1 ∙ append_assoc dir (47 ∷ []) p.0) p.2
  where
    go : (rest : Text) → path ≡ dir ++ (47 ∷ rest) → first_of_rest rest ≡ Some name → Shows dir path name
    go [] below h = absurd cc
    go (b ∷ t) below h = record { rest = b ∷ t; is_below = below; has_rest = λ f. cc; is_first = cc }

shows_shown : (dir path name : Text) → Shows dir path name → shown_at dir path ≡ Some name
shows_shown dir path name s =
    ap (λ p. option_and_then first_of_rest (strip (dir ++ (47 ∷ [])) p)) (s.is_below ∙ sym (append_assoc dir (47 ∷ []) s.rest))
    ∙ ap (option_and_then first_of_rest) (strip_text (dir ++ (47 ∷ [])) s.rest)
    ∙ go s.rest s.has_rest ∙ ap Some (sym s.is_first)
  where
    go : (rest : Text) → (rest ≡ [] → ⊥) → first_of_rest rest ≡ Some (first_part rest)
    go [] h = absurd (h refl)
    go (b ∷ t) h = refl

-- the names that the paths of some entries show
abbrev Names : Type 0
Names = FinMap (slice_cmp nat_cmp) (Unit {0})

abbrev with_shown : Option Text → Names → Names
with_shown None m = m
with_shown (Some n) m = insert m n tt

abbrev names_of : Text → List (Text × Text) → Names
names_of dir [] = empty
names_of dir (e ∷ es) = with_shown (shown_at dir e.0) (names_of dir es)

named_first : (m : Names) (n q : Text) → is_some (get (insert m n tt) q) ≡ true → (q ≡ n) ⊎ (is_some (get m q) ≡ true)
named_first m n q h = go (eq_by_cmp (slice_cmp nat_cmp) q n) refl (ap is_some (sym (get-insert nat_list_cmp_total m n tt q)) ∙ h)
  where
    go : (b : Bool) → eq_by_cmp (slice_cmp nat_cmp) q n ≡ b → is_some (cond b (Some tt) (get m q)) ≡ true → (q ≡ n) ⊎ (is_some (get m q) ≡ true)
    go true e g = inl (tells_apart exact_bytes q n e)
    go false e g = inr g

still_named : (m : Names) (n q : Text) → is_some (get m q) ≡ true → is_some (get (insert m n tt) q) ≡ true
still_named m n q h = ap is_some (get-insert nat_list_cmp_total m n tt q) ∙ go (eq_by_cmp (slice_cmp nat_cmp) q n)
  where
    go : (b : Bool) → is_some (cond b (Some tt) (get m q)) ≡ true
    go true = refl
    go false = h

now_named : (m : Names) (n : Text) → is_some (get (insert m n tt) n) ≡ true
now_named m n = ap is_some (get-insert nat_list_cmp_total m n tt n ∙ ap (λ o. cond (is_eq o) (Some tt) (get m n)) (tied_itself nat_list_cmp_total n))

-- an entry with this path stands among some
abbrev stands : Text → List (Text × Text) → Bool
stands path es = is_some (find (slice_cmp nat_cmp) path es)

stands_first : (e : Text × Text) (es : List (Text × Text)) → stands e.0 (e ∷ es) ≡ true
stands_first e es = ap (λ o. is_some (cond (is_eq o) (Some e.1) (find (slice_cmp nat_cmp) e.0 es))) (tied_itself nat_list_cmp_total e.0)

stands_later : (path : Text) (e : Text × Text) (es : List (Text × Text)) → stands path es ≡ true → stands path (e ∷ es) ≡ true
stands_later path e es h = go (eq_by_cmp (slice_cmp nat_cmp) path e.0)
  where
    go : (b : Bool) → is_some (cond b (Some e.1) (find (slice_cmp nat_cmp) path es)) ≡ true
    go true = refl
    go false = h

stands_cases : (path : Text) (e : Text × Text) (es : List (Text × Text)) → stands path (e ∷ es) ≡ true → (path ≡ e.0) ⊎ (stands path es ≡ true)
stands_cases path e es h = go (eq_by_cmp (slice_cmp nat_cmp) path e.0) refl h
  where
    go : (b : Bool) → eq_by_cmp (slice_cmp nat_cmp) path e.0 ≡ b → is_some (cond b (Some e.1) (find (slice_cmp nat_cmp) path es)) ≡ true → (path ≡ e.0) ⊎ (stands path es ≡ true)
    go true f g = inl (tells_apart exact_bytes path e.0 f)
    go false f g = inr g

shown_to : (dir q : Text) (es : List (Text × Text)) → is_some (get (names_of dir es) q) ≡ true → (path : Text) × (stands path es ≡ true) × Shows dir path q
shown_to dir q [] h = let e : false ≡ true = ap is_some (sym (get-empty (slice_cmp nat_cmp) q)) ∙ h in absurd cc
shown_to dir q (e ∷ es) h = go (shown_at dir e.0) refl h (shown_to dir q es)
  where
    later : ((path : Text) × (stands path es ≡ true) × Shows dir path q) → (path : Text) × (stands path (e ∷ es) ≡ true) × Shows dir path q
    later p = (p.0, stands_later p.0 e es p.1, p.2)

    go : (o : Option Text) → shown_at dir e.0 ≡ o → is_some (get (with_shown o (names_of dir es)) q) ≡ true
        → (is_some (get (names_of dir es) q) ≡ true → (path : Text) × (stands path es ≡ true) × Shows dir path q) → (path : Text) × (stands path (e ∷ es) ≡ true) × Shows dir path q
    go None f g rest = later (rest g)
    go (Some n) f g rest =
        elim (named_first (names_of dir es) n q g) [
          | inl same ↦ (e.0, stands_first e es, shown_shows dir e.0 q (f ∙ ap Some (sym same)))
          | inr old ↦ later (rest old)
        ]

shown_from : (dir q path : Text) (es : List (Text × Text)) → stands path es ≡ true → Shows dir path q → is_some (get (names_of dir es) q) ≡ true
shown_from dir q path [] h s = absurd cc
shown_from dir q path (e ∷ es) h s = elim (stands_cases path e es h) [ inl same ↦ here (shows_shown dir path q s) same | inr old ↦ there (shown_at dir e.0) (shown_from dir q path es old s) ]
  where
    here : shown_at dir path ≡ Some q → path ≡ e.0 → is_some (get (with_shown (shown_at dir e.0) (names_of dir es)) q) ≡ true
    here f same = ap (λ o. is_some (get (with_shown o (names_of dir es)) q)) (ap (shown_at dir) (sym same) ∙ f) ∙ now_named (names_of dir es) q

    there : (o : Option Text) → is_some (get (names_of dir es) q) ≡ true → is_some (get (with_shown o (names_of dir es)) q) ≡ true
    there None g = g
    there (Some n) g = still_named (names_of dir es) n q g

-- keys in order rise
less_is : (o : Ordering) → T (is_lt o) → o ≡ Less
less_is Less h = refl
less_is Equal h = absurd h
less_is Greater h = absurd h

first_both : (a b : Bool) → T (a && b) → T a
first_both true b h = tt
first_both false b h = absurd h

second_both : (a b : Bool) → T (a && b) → T b
second_both true b h = h
second_both false b h = absurd h

step : (a b c d : Bool) → T ((a && b) && (c && d)) → T a × T (b && d)
step true true c true h = (tt, tt)
step true true c false h = absurd (second_both c false h)
step true false c d h = absurd h
step false b c d h = absurd h

below_less : (x : Text) (es : List (Text × Unit {0})) → T (is_sorted (slice_cmp nat_cmp) ((x, tt) ∷ es)) → AllByRecursion (λ y. slice_cmp nat_cmp x y ≡ Less) (map (λ e. e.0) es)
below_less x [] h = tt
below_less x (e ∷ es) h =
    let p = step (is_lt (slice_cmp nat_cmp x e.0)) _ _ (is_sorted (slice_cmp nat_cmp) es) h in
    (less_is (slice_cmp nat_cmp x e.0) p.0, below_less x es p.1)

keys_rise : (es : List (Text × Unit {0})) → T (is_sorted (slice_cmp nat_cmp) es) → IsRising (map (λ e. e.0) es)
unfolding IsStrictlySortedBy
keys_rise [] h = tt
keys_rise (e ∷ es) h = (below_less e.0 es h, keys_rise es (second_both _ (is_sorted (slice_cmp nat_cmp) es) h))

-- a folder shows names, and these are their listing
pub listing_of : (folder : Folder) (dir : Text) → (names : Texts) × IsListing folder dir names × IsRising names
listing_of folder dir = (keys m, is_listing, keys_rise (entries m) (entries_sorted m))
  where
    m : Names
    m = names_of dir (entries folder)

    is_key : (name : Text) → is_some (get m name) ≡ list_any (eq_by_cmp (slice_cmp nat_cmp) name) (keys m)
    is_key name = contains_key-keys m name

    to : (name : Text) → Contains (keys m) name → IsShown folder dir name
    to name c =
        let p = shown_to dir name (entries folder) (is_key name ∙ list_any-from_Contains (eq_by_cmp_equiv nat_list_cmp_total) name (keys m) c) in
        (p.0, ap is_some (get-entries folder p.0) ∙ p.1, p.2)

    from : (name : Text) → IsShown folder dir name → Contains (keys m) name
    from name s =
        Contains-from_any (λ x y e. tells_apart exact_bytes x y e) name (keys m)
        (sym (is_key name) ∙ shown_from dir name s.0 (entries folder) (sym (ap is_some (get-entries folder s.0)) ∙ s.1) s.2)

    is_listing : IsListing folder dir (keys m)
    is_listing name = (to name, from name)
