-- No change brings a string into a tree. This speaks of trees alone, and would stand as well in `mc_nbt`.
use Rattle.std.proofs.Common.{◌≡◌, ℕ, zero, suc, List, [], ◌∷◌, ◌++◌, Option, Some, None, Bool, true, false, refl, sym, ap, ◌∙◌}
use Rattle.std.specs.Prelude.{◌&&◌, if◌then◌else◌, option_and_then, slice_get, slice_set, nat_le}
use Rattle.std.specs.List.{remove as remove_item}
use Rattle.std.specs.Str.{bytes_eq}
use Rattle.std.specs.Ordering.{nat_cmp, is_lt}
use Rattle.std.specs.Cmp.Lexicographic.{slice_cmp}
use Rattle.std.proofs.lemmas.Bool.{and_parts, and_from}
use Rattle.mc_nbt.specs.Tree.{Tree, Items, item, Fields, Part, items, of_items, fields, of_fields, find, replace, insert, put, put_found, child, below, below_last, exchange, set_at, append_at, remove_at, without, leave_out, add_to, depth, select, is_already, within_depth, set, append, remove}
use Rattle.mc_nbt.proofs.TreeLemmas.{items-of_items, fields-of_fields}
use Rattle.mc_nbt.proofs.StepLemmas.{Passes, through_passes, child_cases, below_cases, below_last_cases, exchange_cases, put_last_exchanges, leave_out_cases, add_to_cases}
use Rattle.mc_together.specs.Bare.{is_bare, items_bare, fields_bare}

first : (a b : Bool) → a && b ≡ true → a ≡ true
first a b h = (and_parts a b h).0

second : (a b : Bool) → a && b ≡ true → b ≡ true
second a b h = (and_parts a b h).1

items_of : (ts : Items) → items_bare ts ≡ true → items_bare (items (of_items ts)) ≡ true
items_of ts h = ap items_bare (items-of_items ts) ∙ h

pub fields_of : (fs : Fields) → fields_bare fs ≡ true → fields_bare (fields (of_fields fs)) ≡ true
fields_of fs h = ap fields_bare (fields-of_fields fs) ∙ h

-- fields
pub find_bare : (k : List ℕ) (es : List (List ℕ × Tree)) (u : Tree) → fields_bare (fields es) ≡ true → find k es ≡ Some u → is_bare u ≡ true
find_bare k [] u s h = absurd cc
find_bare k (e ∷ es) u s h = go (bytes_eq k e.0) h (find_bare k es u (second (is_bare e.1) (fields_bare (fields es)) s))
  where
    go : (b : Bool) → (if b then Some e.1 else find k es) ≡ Some u → (find k es ≡ Some u → is_bare u ≡ true) → is_bare u ≡ true
    go true h ih = let g : u ≡ e.1 = cc in ap is_bare g ∙ first (is_bare e.1) (fields_bare (fields es)) s
    go false h ih = ih h

replace_bare : (k : List ℕ) (v : Tree) (es : List (List ℕ × Tree)) → is_bare v ≡ true → fields_bare (fields es) ≡ true → fields_bare (fields (replace k v es)) ≡ true
replace_bare k v [] hv s = refl
replace_bare k v (e ∷ es) hv s = go (bytes_eq k e.0) (replace_bare k v es hv (second (is_bare e.1) (fields_bare (fields es)) s))
  where
    go : (b : Bool) → fields_bare (fields (replace k v es)) ≡ true → fields_bare (fields (if b then (e.0, v) ∷ es else e ∷ replace k v es)) ≡ true
    go true ih = and_from (is_bare v) _ hv (second (is_bare e.1) (fields_bare (fields es)) s)
    go false ih = and_from (is_bare e.1) _ (first (is_bare e.1) (fields_bare (fields es)) s) ih

insert_bare : (k : List ℕ) (v : Tree) (es : List (List ℕ × Tree)) → is_bare v ≡ true → fields_bare (fields es) ≡ true → fields_bare (fields (insert k v es)) ≡ true
insert_bare k v [] hv s = and_from (is_bare v) _ hv refl
insert_bare k v (e ∷ es) hv s = go (is_lt (slice_cmp nat_cmp k e.0)) (insert_bare k v es hv (second (is_bare e.1) (fields_bare (fields es)) s))
  where
    go : (b : Bool) → fields_bare (fields (insert k v es)) ≡ true → fields_bare (fields (if b then (k, v) ∷ e ∷ es else e ∷ insert k v es)) ≡ true
    go true ih = and_from (is_bare v) _ hv s
    go false ih = and_from (is_bare e.1) _ (first (is_bare e.1) (fields_bare (fields es)) s) ih

put_bare : (k : List ℕ) (v : Tree) (es : List (List ℕ × Tree)) → is_bare v ≡ true → fields_bare (fields es) ≡ true → fields_bare (fields (put k v es)) ≡ true
put_bare k v es hv s = go (find k es)
  where
    go : (o : Option Tree) → fields_bare (fields (put_found o k v es)) ≡ true
    go None = insert_bare k v es hv s
    go (Some u) = replace_bare k v es hv s

without_bare : (k : List ℕ) (es : List (List ℕ × Tree)) → fields_bare (fields es) ≡ true → fields_bare (fields (without k es)) ≡ true
without_bare k [] s = refl
without_bare k (e ∷ es) s = go (bytes_eq k e.0) (without_bare k es (second (is_bare e.1) (fields_bare (fields es)) s))
  where
    go : (b : Bool) → fields_bare (fields (without k es)) ≡ true → fields_bare (fields (if b then es else e ∷ without k es)) ≡ true
    go true ih = second (is_bare e.1) (fields_bare (fields es)) s
    go false ih = and_from (is_bare e.1) _ (first (is_bare e.1) (fields_bare (fields es)) s) ih

-- elements
get_bare : (ts : List Tree) (i : ℕ) (u : Tree) → items_bare (items ts) ≡ true → slice_get ts i ≡ Some u → is_bare u ≡ true
get_bare [] i u s h = absurd cc
get_bare (t ∷ ts) zero u s h = let g : u ≡ t = cc in ap is_bare g ∙ first (is_bare t) (items_bare (items ts)) s
get_bare (t ∷ ts) (suc i) u s h = get_bare ts i u (second (is_bare t) (items_bare (items ts)) s) h

slice_set_bare : (ts : List Tree) (i : ℕ) (v : Tree) → is_bare v ≡ true → items_bare (items ts) ≡ true → items_bare (items (slice_set ts i v)) ≡ true
slice_set_bare [] i v hv s = refl
slice_set_bare (t ∷ ts) zero v hv s = and_from (is_bare v) _ hv (second (is_bare t) (items_bare (items ts)) s)
slice_set_bare (t ∷ ts) (suc i) v hv s = and_from (is_bare t) _ (first (is_bare t) (items_bare (items ts)) s) (slice_set_bare ts i v hv (second (is_bare t) (items_bare (items ts)) s))

remove_item_bare : (ts : List Tree) (i : ℕ) → items_bare (items ts) ≡ true → items_bare (items (remove_item ts i)) ≡ true
remove_item_bare [] zero s = refl
remove_item_bare [] (suc i) s = refl
remove_item_bare (t ∷ ts) zero s = second (is_bare t) (items_bare (items ts)) s
remove_item_bare (t ∷ ts) (suc i) s = and_from (is_bare t) _ (first (is_bare t) (items_bare (items ts)) s) (remove_item_bare ts i (second (is_bare t) (items_bare (items ts)) s))

add_item_bare : (ts : List Tree) (v : Tree) → is_bare v ≡ true → items_bare (items ts) ≡ true → items_bare (items (ts ++ v ∷ [])) ≡ true
add_item_bare [] v hv s = and_from (is_bare v) _ hv refl
add_item_bare (t ∷ ts) v hv s = and_from (is_bare t) _ (first (is_bare t) (items_bare (items ts)) s) (add_item_bare ts v hv (second (is_bare t) (items_bare (items ts)) s))

-- one step of a path
child_bare : (t : Tree) (p : Part) (u : Tree) → child t p ≡ Some u → is_bare t ≡ true → is_bare u ≡ true
child_bare = child_cases (λ t p u. is_bare t ≡ true → is_bare u ≡ true)
    (λ fs k u h s. find_bare k (of_fields fs) u (fields_of fs s) h)
    (λ ts i k u n h s. get_bare (of_items ts) k u (items_of ts s) h)

below_bare : (t : Tree) (p : Part) (u : Tree) → below t p ≡ Some u → is_bare t ≡ true → is_bare u ≡ true
below_bare = below_cases (λ t p u. is_bare t ≡ true → is_bare u ≡ true) child_bare (λ fs k h s. refl)

below_last_bare : (t : Tree) (p : Part) (u : Tree) → below_last t p ≡ Some u → is_bare t ≡ true → is_bare u ≡ true
below_last_bare = below_last_cases (λ t p u. is_bare t ≡ true → is_bare u ≡ true) child_bare (λ fs k h s. refl)

exchange_bare : (t : Tree) (p : Part) (v t' : Tree) → exchange t p v ≡ Some t' → is_bare t ≡ true → is_bare v ≡ true → is_bare t' ≡ true
exchange_bare = exchange_cases (λ t p v t'. is_bare t ≡ true → is_bare v ≡ true → is_bare t' ≡ true)
    (λ fs k v s hv. put_bare k v (of_fields fs) hv (fields_of fs s))
    (λ ts i v k h s hv. slice_set_bare (of_items ts) k v hv (items_of ts s))

add_to_bare : (v t t' : Tree) → add_to v t ≡ Some t' → is_bare v ≡ true → is_bare t ≡ true → is_bare t' ≡ true
add_to_bare = add_to_cases (λ v t t'. is_bare v ≡ true → is_bare t ≡ true → is_bare t' ≡ true)
    (λ v hv s. and_from (is_bare v) true hv refl)
    (λ v t ts e hv s. add_item_bare (t ∷ of_items ts) v hv (items_of (item t ts) s))

leave_out_bare : (t : Tree) (p : Part) (t' : Tree) → leave_out t p ≡ Some t' → is_bare t ≡ true → is_bare t' ≡ true
leave_out_bare = leave_out_cases (λ t p t'. is_bare t ≡ true → is_bare t' ≡ true)
    (λ fs k u h s. without_bare k (of_fields fs) (fields_of fs s))
    (λ ts i k h s. remove_item_bare (of_items ts) k (items_of ts s))

-- paths
pub selected_bare : (t : Tree) (ps : List Part) (u : Tree) → is_bare t ≡ true → select t ps ≡ Some u → is_bare u ≡ true
selected_bare t [] u s h = let g : t ≡ u = cc in ap is_bare (sym g) ∙ s
selected_bare t (p ∷ ps) u s h = go (child t p) refl h (λ w b g. selected_bare w ps u b g)
  where
    go : (o : Option Tree) → child t p ≡ o → option_and_then (λ w. select w ps) o ≡ Some u → ((w : Tree) → is_bare w ≡ true → select w ps ≡ Some u → is_bare u ≡ true) → is_bare u ≡ true
    go None e h ih = absurd cc
    go (Some w) e h ih = ih w (child_bare t p w e s) h

set_at_bare : (p : Part) (ps : List Part) (v t t' : Tree) → is_bare t ≡ true → is_bare v ≡ true → set_at p ps v t ≡ Some t' → is_bare t' ≡ true
set_at_bare p [] v t t' s hv h = exchange_bare t p v t' (put_last_exchanges t p v t' h) s hv
set_at_bare p (q ∷ ps) v t t' s hv h =
    let steps : Passes t p (set_at q ps v) (below t p) t' = through_passes t p (set_at q ps v) (below t p) t' h in
    exchange_bare t p steps.after t' steps.exchanged s (set_at_bare q ps v steps.before steps.after (below_bare t p steps.before steps.found s) hv steps.changed)

append_at_bare : (p : Part) (ps : List Part) (v t t' : Tree) → is_bare t ≡ true → is_bare v ≡ true → append_at p ps v t ≡ Some t' → is_bare t' ≡ true
append_at_bare p [] v t t' s hv h =
    let steps : Passes t p (add_to v) (below_last t p) t' = through_passes t p (add_to v) (below_last t p) t' h in
    exchange_bare t p steps.after t' steps.exchanged s (add_to_bare v steps.before steps.after steps.changed hv (below_last_bare t p steps.before steps.found s))
append_at_bare p (q ∷ ps) v t t' s hv h =
    let steps : Passes t p (append_at q ps v) (below t p) t' = through_passes t p (append_at q ps v) (below t p) t' h in
    exchange_bare t p steps.after t' steps.exchanged s (append_at_bare q ps v steps.before steps.after (below_bare t p steps.before steps.found s) hv steps.changed)

remove_at_bare : (p : Part) (ps : List Part) (t t' : Tree) → is_bare t ≡ true → remove_at p ps t ≡ Some t' → is_bare t' ≡ true
remove_at_bare p [] t t' s h = leave_out_bare t p t' h s
remove_at_bare p (q ∷ ps) t t' s h =
    let steps : Passes t p (remove_at q ps) (child t p) t' = through_passes t p (remove_at q ps) (child t p) t' h in
    exchange_bare t p steps.after t' steps.exchanged s (remove_at_bare q ps steps.before steps.after (child_bare t p steps.before steps.found s) steps.changed)

within : (o : Option Tree) (t : Tree) → option_and_then within_depth o ≡ Some t → o ≡ Some t
within None t h = absurd cc
within (Some u) t h = go (nat_le (depth u) 64) h
  where
    go : (b : Bool) → (if b then Some u else None) ≡ Some t → Some u ≡ Some t
    go true h = h
    go false h = absurd cc

unless_some : (b : Bool) (o : Option Tree) (t : Tree) → (if b then None else o) ≡ Some t → o ≡ Some t
unless_some true o t h = absurd cc
unless_some false o t h = h

pub set_bare : (t : Tree) (ps : List Part) (v t' : Tree) → is_bare t ≡ true → is_bare v ≡ true → set t ps v ≡ Some t' → is_bare t' ≡ true
set_bare t [] v t' s hv h = absurd cc
set_bare t (p ∷ ps) v t' s hv h =
    set_at_bare p ps v t t' s hv (within (set_at p ps v t) t' (unless_some (is_already (select t (p ∷ ps)) v) (option_and_then within_depth (set_at p ps v t)) t' h))

pub append_bare : (t : Tree) (ps : List Part) (v t' : Tree) → is_bare t ≡ true → is_bare v ≡ true → append t ps v ≡ Some t' → is_bare t' ≡ true
append_bare t [] v t' s hv h = absurd cc
append_bare t (p ∷ ps) v t' s hv h = append_at_bare p ps v t t' s hv (within (append_at p ps v t) t' h)

pub remove_bare : (t : Tree) (ps : List Part) (t' : Tree) → is_bare t ≡ true → remove t ps ≡ Some t' → is_bare t' ≡ true
remove_bare t [] t' s h = absurd cc
remove_bare t (p ∷ ps) t' s h = remove_at_bare p ps t t' s h
