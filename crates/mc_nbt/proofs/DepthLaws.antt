-- How deep the trees are that `set`, `append` and `remove` leave.
use Rattle.std.proofs.Common.{◌≡◌, ◌≤◌, ◌<◌, ◌+◌, ℕ, zero, suc, List, [], ◌∷◌, ◌++◌, length, Option, Some, None, Bool, true, false, refl, ap, arith}
use Rattle.std.specs.Prelude.{max, if◌then◌else◌, nat_le, option_and_then, slice_get, slice_set}
use Rattle.std.specs.List.{remove as remove_item}
use Rattle.std.specs.Str.{bytes_eq}
use Rattle.std.specs.Ordering.{nat_cmp, is_lt}
use Rattle.std.specs.Cmp.Lexicographic.{slice_cmp}
use Rattle.std.proofs.lemmas.Bool.Decides.{nat_tests}
use Rattle.mc_nbt.specs.Tree.{Tree, Part, items, of_items, fields, of_fields, find, replace, insert, put, put_found, child, below, below_last, exchange, set_at, append_at, remove_at, without, leave_out, add_to, depth, items_depth, fields_depth, within_depth}
use Rattle.mc_nbt.proofs.TreeLemmas.{items-of_items, fields-of_fields}
use Rattle.mc_nbt.proofs.StepLemmas.{index_within, Passes, through_passes, child_cases, below_cases, below_last_cases, exchange_cases, put_last_exchanges, leave_out_cases, add_to_cases}

-- fields
find_depth : (k : List ℕ) (es : List (List ℕ × Tree)) (u : Tree) → find k es ≡ Some u → depth u ≤ fields_depth (fields es)
find_depth k [] u h = absurd cc
find_depth k (e ∷ es) u h = go (bytes_eq k e.0) h (find_depth k es u)
  where
    go : (b : Bool) → (if b then Some e.1 else find k es) ≡ Some u → (find k es ≡ Some u → depth u ≤ fields_depth (fields es)) → depth u ≤ max (depth e.1) (fields_depth (fields es))
    go true h ih = let g : e.1 ≡ u = cc in let d = ap depth g in omega arith
    go false h ih = let d = ih h in omega arith

replace_depth_most : (k : List ℕ) (v : Tree) (es : List (List ℕ × Tree)) → fields_depth (fields (replace k v es)) ≤ max (fields_depth (fields es)) (depth v)
replace_depth_most k v [] = omega arith
replace_depth_most k v (e ∷ es) = go (bytes_eq k e.0) (replace_depth_most k v es)
  where
    go : (b : Bool) → fields_depth (fields (replace k v es)) ≤ max (fields_depth (fields es)) (depth v) → fields_depth (fields (if b then (e.0, v) ∷ es else e ∷ replace k v es)) ≤ max (max (depth e.1) (fields_depth (fields es))) (depth v)
    go true ih = omega arith
    go false ih = omega arith

replace_depth_least : (k : List ℕ) (v u : Tree) (es : List (List ℕ × Tree)) → find k es ≡ Some u → depth v ≤ fields_depth (fields (replace k v es))
replace_depth_least k v u [] h = absurd cc
replace_depth_least k v u (e ∷ es) h = go (bytes_eq k e.0) h (replace_depth_least k v u es)
  where
    go : (b : Bool) → (if b then Some e.1 else find k es) ≡ Some u → (find k es ≡ Some u → depth v ≤ fields_depth (fields (replace k v es))) → depth v ≤ fields_depth (fields (if b then (e.0, v) ∷ es else e ∷ replace k v es))
    go true h ih = omega arith
    go false h ih = let d = ih h in omega arith

insert_depth : (k : List ℕ) (v : Tree) (es : List (List ℕ × Tree)) → fields_depth (fields (insert k v es)) ≡ max (depth v) (fields_depth (fields es))
insert_depth k v [] = refl
insert_depth k v (e ∷ es) = go (is_lt (slice_cmp nat_cmp k e.0)) (insert_depth k v es)
  where
    go : (b : Bool) → fields_depth (fields (insert k v es)) ≡ max (depth v) (fields_depth (fields es)) → fields_depth (fields (if b then (k, v) ∷ e ∷ es else e ∷ insert k v es)) ≡ max (depth v) (max (depth e.1) (fields_depth (fields es)))
    go true ih = refl
    go false ih = omega arith

put_depth_most : (k : List ℕ) (v : Tree) (es : List (List ℕ × Tree)) → fields_depth (fields (put k v es)) ≤ max (fields_depth (fields es)) (depth v)
put_depth_most k v es = go (find k es)
  where
    go : (o : Option Tree) → fields_depth (fields (put_found o k v es)) ≤ max (fields_depth (fields es)) (depth v)
    go None = let d = insert_depth k v es in omega arith
    go (Some u) = replace_depth_most k v es

put_depth_least : (k : List ℕ) (v : Tree) (es : List (List ℕ × Tree)) → depth v ≤ fields_depth (fields (put k v es))
put_depth_least k v es = go (find k es) refl
  where
    go : (o : Option Tree) → find k es ≡ o → depth v ≤ fields_depth (fields (put_found o k v es))
    go None e = let d = insert_depth k v es in omega arith
    go (Some u) e = replace_depth_least k v u es e

without_depth : (k : List ℕ) (es : List (List ℕ × Tree)) → fields_depth (fields (without k es)) ≤ fields_depth (fields es)
without_depth k [] = omega arith
without_depth k (e ∷ es) = go (bytes_eq k e.0) (without_depth k es)
  where
    go : (b : Bool) → fields_depth (fields (without k es)) ≤ fields_depth (fields es) → fields_depth (fields (if b then es else e ∷ without k es)) ≤ max (depth e.1) (fields_depth (fields es))
    go true ih = omega arith
    go false ih = omega arith

-- elements
get_depth : (ts : List Tree) (i : ℕ) (u : Tree) → slice_get ts i ≡ Some u → depth u ≤ items_depth (items ts)
get_depth [] i u h = absurd cc
get_depth (t ∷ ts) zero u h = let g : t ≡ u = cc in let d = ap depth g in omega arith
get_depth (t ∷ ts) (suc i) u h = let d = get_depth ts i u h in omega arith

slice_set_depth_most : (ts : List Tree) (i : ℕ) (v : Tree) → items_depth (items (slice_set ts i v)) ≤ max (items_depth (items ts)) (depth v)
slice_set_depth_most [] i v = omega arith
slice_set_depth_most (t ∷ ts) zero v = omega arith
slice_set_depth_most (t ∷ ts) (suc i) v = let d = slice_set_depth_most ts i v in omega arith

slice_set_depth_least : (ts : List Tree) (i : ℕ) (v : Tree) → i < length ts → depth v ≤ items_depth (items (slice_set ts i v))
slice_set_depth_least [] i v h = absurd (omega arith)
slice_set_depth_least (t ∷ ts) zero v h = omega arith
slice_set_depth_least (t ∷ ts) (suc i) v h = let d = slice_set_depth_least ts i v (omega arith) in omega arith

remove_item_depth : (ts : List Tree) (i : ℕ) → items_depth (items (remove_item ts i)) ≤ items_depth (items ts)
remove_item_depth [] zero = omega arith
remove_item_depth [] (suc i) = omega arith
remove_item_depth (t ∷ ts) zero = omega arith
remove_item_depth (t ∷ ts) (suc i) = let d = remove_item_depth ts i in omega arith

add_item_depth : (ts : List Tree) (v : Tree) → items_depth (items (ts ++ v ∷ [])) ≡ max (items_depth (items ts)) (depth v)
add_item_depth [] v = omega arith
add_item_depth (t ∷ ts) v = let d = add_item_depth ts v in omega arith

-- one step of a path
pub child_depth : (t : Tree) (p : Part) (u : Tree) → child t p ≡ Some u → suc (depth u) ≤ depth t
child_depth = child_cases (λ t p u. suc (depth u) ≤ depth t)
    (λ fs k u h. let d = find_depth k (of_fields fs) u h in let e = ap fields_depth (fields-of_fields fs) in omega arith)
    (λ ts i k u n h. let d = get_depth (of_items ts) k u h in let e = ap items_depth (items-of_items ts) in omega arith)

below_depth : (t : Tree) (p : Part) (u : Tree) → below t p ≡ Some u → suc (depth u) ≤ max (depth t) 2
below_depth = below_cases (λ t p u. suc (depth u) ≤ max (depth t) 2)
    (λ t p u h. let d = child_depth t p u h in omega arith)
    (λ fs k h. omega arith)

below_last_depth : (t : Tree) (p : Part) (u : Tree) → below_last t p ≡ Some u → suc (depth u) ≤ max (depth t) 2
below_last_depth = below_last_cases (λ t p u. suc (depth u) ≤ max (depth t) 2)
    (λ t p u h. let d = child_depth t p u h in omega arith)
    (λ fs k h. omega arith)

pub exchange_depth_most : (t : Tree) (p : Part) (v t' : Tree) → exchange t p v ≡ Some t' → depth t' ≤ max (depth t) (suc (depth v))
exchange_depth_most = exchange_cases (λ t p v t'. depth t' ≤ max (depth t) (suc (depth v)))
    (λ fs k v. let d = put_depth_most k v (of_fields fs) in let e = ap fields_depth (fields-of_fields fs) in omega arith)
    (λ ts i v k h. let d = slice_set_depth_most (of_items ts) k v in let e = ap items_depth (items-of_items ts) in omega arith)

exchange_depth_least : (t : Tree) (p : Part) (v t' : Tree) → exchange t p v ≡ Some t' → suc (depth v) ≤ depth t'
exchange_depth_least = exchange_cases (λ t p v t'. suc (depth v) ≤ depth t')
    (λ fs k v. let d = put_depth_least k v (of_fields fs) in omega arith)
    (λ ts i v k h. let d = slice_set_depth_least (of_items ts) k v (index_within (length (of_items ts)) i k h) in omega arith)

leave_out_depth : (t : Tree) (p : Part) (t' : Tree) → leave_out t p ≡ Some t' → depth t' ≤ depth t
leave_out_depth = leave_out_cases (λ t p t'. depth t' ≤ depth t)
    (λ fs k u h. let d = without_depth k (of_fields fs) in let e = ap fields_depth (fields-of_fields fs) in omega arith)
    (λ ts i k h. let d = remove_item_depth (of_items ts) k in let e = ap items_depth (items-of_items ts) in omega arith)

add_to_depth : (v t t' : Tree) → add_to v t ≡ Some t' → depth t' ≡ max (depth t) (suc (depth v))
add_to_depth = add_to_cases (λ v t t'. depth t' ≡ max (depth t) (suc (depth v)))
    (λ v. omega arith)
    (λ v t ts h. let d = add_item_depth (t ∷ of_items ts) v in let e = ap items_depth (items-of_items ts) in omega arith)

-- a tree that a `set` leaves is deep enough for the path and the value, and no deeper than that or the old one
pub set_depth_least : (p : Part) (ps : List Part) (v t t' : Tree) → set_at p ps v t ≡ Some t' → length (p ∷ ps) + depth v ≤ depth t'
set_depth_least p [] v t t' h = let d = exchange_depth_least t p v t' (put_last_exchanges t p v t' h) in omega arith
set_depth_least p (q ∷ ps) v t t' h =
    let s : Passes t p (set_at q ps v) (below t p) t' = through_passes t p (set_at q ps v) (below t p) t' h in
    let d = set_depth_least q ps v s.before s.after s.changed in
    let e = exchange_depth_least t p s.after t' s.exchanged in
    omega arith

pub set_depth_most : (p : Part) (ps : List Part) (v t t' : Tree) → set_at p ps v t ≡ Some t' → depth t' ≤ max (depth t) (length (p ∷ ps) + depth v)
set_depth_most p [] v t t' h = let d = exchange_depth_most t p v t' (put_last_exchanges t p v t' h) in omega arith
set_depth_most p (q ∷ ps) v t t' h =
    let s : Passes t p (set_at q ps v) (below t p) t' = through_passes t p (set_at q ps v) (below t p) t' h in
    let b = below_depth t p s.before s.found in
    let d = set_depth_most q ps v s.before s.after s.changed in
    let e = exchange_depth_most t p s.after t' s.exchanged in
    omega arith

-- the value that an `append` adds stands one level below the path
pub append_depth_least : (p : Part) (ps : List Part) (v t t' : Tree) → append_at p ps v t ≡ Some t' → suc (length (p ∷ ps)) + depth v ≤ depth t'
append_depth_least p [] v t t' h =
    let s : Passes t p (add_to v) (below_last t p) t' = through_passes t p (add_to v) (below_last t p) t' h in
    let d = add_to_depth v s.before s.after s.changed in
    let e = exchange_depth_least t p s.after t' s.exchanged in
    omega arith
append_depth_least p (q ∷ ps) v t t' h =
    let s : Passes t p (append_at q ps v) (below t p) t' = through_passes t p (append_at q ps v) (below t p) t' h in
    let d = append_depth_least q ps v s.before s.after s.changed in
    let e = exchange_depth_least t p s.after t' s.exchanged in
    omega arith

pub append_depth_most : (p : Part) (ps : List Part) (v t t' : Tree) → append_at p ps v t ≡ Some t' → depth t' ≤ max (depth t) (suc (length (p ∷ ps)) + depth v)
append_depth_most p [] v t t' h =
    let s : Passes t p (add_to v) (below_last t p) t' = through_passes t p (add_to v) (below_last t p) t' h in
    let b = below_last_depth t p s.before s.found in
    let d = add_to_depth v s.before s.after s.changed in
    let e = exchange_depth_most t p s.after t' s.exchanged in
    omega arith
append_depth_most p (q ∷ ps) v t t' h =
    let s : Passes t p (append_at q ps v) (below t p) t' = through_passes t p (append_at q ps v) (below t p) t' h in
    let b = below_depth t p s.before s.found in
    let d = append_depth_most q ps v s.before s.after s.changed in
    let e = exchange_depth_most t p s.after t' s.exchanged in
    omega arith

-- a tree that a `remove` leaves is no deeper than the old one
pub remove_depth : (p : Part) (ps : List Part) (t t' : Tree) → remove_at p ps t ≡ Some t' → depth t' ≤ depth t
remove_depth p [] t t' h = leave_out_depth t p t' h
remove_depth p (q ∷ ps) t t' h =
    let s : Passes t p (remove_at q ps) (child t p) t' = through_passes t p (remove_at q ps) (child t p) t' h in
    let b = child_depth t p s.before s.found in
    let d = remove_depth q ps s.before s.after s.changed in
    let e = exchange_depth_most t p s.after t' s.exchanged in
    omega arith

-- where the old tree is at most 64 deep, the new one is so exactly where the path and the value are
within_if : (o : Option Tree) (n : ℕ) → ((t : Tree) → o ≡ Some t → n ≤ depth t) → ((t : Tree) → o ≡ Some t → depth t ≤ max 64 n) → option_and_then within_depth o ≡ (if nat_le n 64 then o else None)
within_if None n least most = go (nat_le n 64)
  where
    nothing : Option Tree
    nothing = None

    go : (b : Bool) → nothing ≡ (if b then nothing else nothing)
    go true = refl
    go false = refl
within_if (Some t) n least most =
    let a = least t refl in
    let b = most t refl in
    let e : nat_le (depth t) 64 ≡ nat_le n 64 = grind (arith, nat_tests) in
    ap (λ b. if b then Some t else None) e

pub set_within : (p : Part) (ps : List Part) (v t : Tree) → depth t ≤ 64 → option_and_then within_depth (set_at p ps v t) ≡ (if nat_le (length (p ∷ ps) + depth v) 64 then set_at p ps v t else None)
set_within p ps v t h = within_if (set_at p ps v t) (length (p ∷ ps) + depth v)
    (λ u e. set_depth_least p ps v t u e)
    (λ u e. let d = set_depth_most p ps v t u e in omega arith)

pub append_within : (p : Part) (ps : List Part) (v t : Tree) → depth t ≤ 64 → option_and_then within_depth (append_at p ps v t) ≡ (if nat_le (suc (length (p ∷ ps)) + depth v) 64 then append_at p ps v t else None)
append_within p ps v t h = within_if (append_at p ps v t) (suc (length (p ∷ ps)) + depth v)
    (λ u e. append_depth_least p ps v t u e)
    (λ u e. let d = append_depth_most p ps v t u e in omega arith)
