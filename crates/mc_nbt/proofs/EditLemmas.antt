-- Laws of the changes of lists and fields, for the code that makes them.
use Rattle.std.proofs.Common.{◌≡◌, ℕ, zero, suc, List, [], ◌∷◌, refl, ap, map, ◌∙◌, sym, arith, length, subst, take, drop, get_or, ◌-◌, ◌≤◌, ◌+◌, ◌++◌}
use Rattle.std.specs.Prelude.{slice_set, slice_index_or, slice_get, ℤ, pos, nat_eq, option_map, Option, Some, None, Bool, true, false, if◌then◌else◌, ◌<◌, option_and_then, unwrap_or}
use Rattle.std.proofs.lemmas.Grind.{common_steps}
use Rattle.std.specs.Str.{bytes_eq}
use Rattle.std.specs.List as List
use Rattle.mc_nbt.specs.Word.{comes_before}
use Rattle.mc_nbt.specs.Tree.{Tree, Items, Fields, items, of_items, fields, of_fields, find, replace, put, put_found, through, exchange, Part, item_at, index_of, int, below, child, list, compound, no_fields, key, place, kind, is_of_kind, put_in, without, without_at}
use Rattle.mc_nbt.specs.Tree as spec
use Rattle.mc_nbt.specs.View.{view, entry}
use Rattle.mc_nbt.specs.steps.Edit.{with_value, index_of_key, index_found, value_at, rank_of_key, Edit, made, fails, short, IsEdit, edit_map, is_closed, AddsField, AddsDone}
use Rattle.mc_nbt.specs.declared.tree.Nbt.{Nbt}
use Rattle.mc_nbt.proofs.TreeLemmas.{of_fields-fields}

pub map_set : {A B : Type 0} (f : A → B) (xs : List A) (i : ℕ) (x : A) → map f (slice_set xs i x) ≡ slice_set (map f xs) i (f x)
map_set f [] i x = refl
map_set f (y ∷ xs) zero x = refl
map_set f (y ∷ xs) (suc i) x = ap (λ l. f y ∷ l) (map_set f xs i x)

pub set_twice : {A : Type 0} (xs : List A) (i : ℕ) (u v : A) → slice_set (slice_set xs i u) i v ≡ slice_set xs i v
set_twice [] i u v = refl
set_twice (t ∷ xs) zero u v = refl
set_twice (t ∷ xs) (suc i) u v = ap (λ l. t ∷ l) (set_twice xs i u v)

pub ruleset sets = (map_set, set_twice)

pub set_value : (es : List (List ℕ × Nbt)) (i : ℕ) (d : List ℕ × Nbt) (v : Nbt) → map entry (slice_set es i ((slice_index_or es i d).0, v)) ≡ with_value i (view v) (map entry es)
set_value [] i d v = refl
set_value (e ∷ es) zero d v = refl
set_value (e ∷ es) (suc i) d v = ap (λ l. entry e ∷ l) (set_value es i d v)

pub value_twice : (es : List (List ℕ × Tree)) (i : ℕ) (u v : Tree) → with_value i v (with_value i u es) ≡ with_value i v es
value_twice [] i u v = refl
value_twice (e ∷ es) zero u v = refl
value_twice (e ∷ es) (suc i) u v = ap (λ l. e ∷ l) (value_twice es i u v)

pub value_here : (es : List (List ℕ × Nbt)) (i : ℕ) (d : List ℕ × Nbt) → i < length es → value_at i (map entry es) ≡ Some (view (slice_index_or es i d).1)
value_here [] i d h = absurd (omega arith)
value_here (e ∷ es) zero d h = refl
value_here (e ∷ es) (suc i) d h = value_here es i d (omega arith)

pub value_same : (es : List (List ℕ × Tree)) (i : ℕ) (u : Tree) → value_at i es ≡ Some u → with_value i u es ≡ es
value_same [] i u h = refl
value_same (e ∷ es) zero u h = let g : e.1 ≡ u = cc in ap (λ w. (e.0, w) ∷ es) (sym g)
value_same (e ∷ es) (suc i) u h = ap (λ l. e ∷ l) (value_same es i u h)

pub ruleset values = (set_value, value_twice, value_here)

-- the index of a key, counted from further left
pub skip_found : (i : ℕ) (o : Option ℕ) → option_map (λ j. i + j) (index_found false o) ≡ option_map (λ j. suc i + j) o
skip_found i None = refl
skip_found i (Some j) = let e : i + suc j ≡ suc i + j = omega arith in ap Some e

abbrev pub value_in : Option ℕ → List (List ℕ × Tree) → Option Tree
value_in None es = None
value_in (Some i) es = value_at i es

abbrev pub with_in : Option ℕ → Tree → List (List ℕ × Tree) → List (List ℕ × Tree)
with_in None v es = es
with_in (Some i) v es = with_value i v es

-- a key that stands somewhere
pub find_is : (k : List ℕ) (es : List (List ℕ × Tree)) → find k es ≡ value_in (index_of_key k es) es
find_is k [] = refl
find_is k (e ∷ es) = go (bytes_eq k e.0) (index_of_key k es) (find_is k es)
  where
    go : (b : Bool) (o : Option ℕ) → find k es ≡ value_in o es → (if b then Some e.1 else find k es) ≡ value_in (index_found b o) (e ∷ es)
    go true o ih = refl
    go false None ih = ih
    go false (Some i) ih = ih

replace_is : (k : List ℕ) (v : Tree) (es : List (List ℕ × Tree)) → replace k v es ≡ with_in (index_of_key k es) v es
replace_is k v [] = refl
replace_is k v (e ∷ es) = go (bytes_eq k e.0) (index_of_key k es) (replace_is k v es)
  where
    go : (b : Bool) (o : Option ℕ) → replace k v es ≡ with_in o v es → (if b then (e.0, v) ∷ es else e ∷ replace k v es) ≡ with_in (index_found b o) v (e ∷ es)
    go true o ih = refl
    go false None ih = ap (λ l. e ∷ l) ih
    go false (Some i) ih = ap (λ l. e ∷ l) ih

pub find_none : (k : List ℕ) (es : List (List ℕ × Tree)) → index_of_key k es ≡ None → find k es ≡ None
find_none k es h = find_is k es ∙ ap (λ o. value_in o es) h

pub find_at : (k : List ℕ) (es : List (List ℕ × Tree)) (i : ℕ) (u : Tree) → index_of_key k es ≡ Some i → value_at i es ≡ Some u → find k es ≡ Some u
find_at k es i u h g = find_is k es ∙ ap (λ o. value_in o es) h ∙ g

pub put_at : (k : List ℕ) (es : List (List ℕ × Tree)) (i : ℕ) (u v : Tree) → index_of_key k es ≡ Some i → value_at i es ≡ Some u → put k v es ≡ with_value i v es
put_at k es i u v h g = ap (λ o. put_found o k v es) (find_at k es i u h g) ∙ replace_is k v es ∙ ap (λ o. with_in o v es) h

insert_is : (k : List ℕ) (v : Tree) (es : List (List ℕ × Tree)) → spec.insert k v es ≡ List.insert es (rank_of_key k es) (k, v)
insert_is k v [] = refl
insert_is k v (e ∷ es) = go (comes_before k e.0) (insert_is k v es)
  where
    go : (b : Bool) → spec.insert k v es ≡ List.insert es (rank_of_key k es) (k, v) → (if b then (k, v) ∷ e ∷ es else e ∷ spec.insert k v es) ≡ List.insert (e ∷ es) (if b then 0 else suc (rank_of_key k es)) (k, v)
    go true ih = refl
    go false ih = ap (λ l. e ∷ l) ih

pub put_new : (k : List ℕ) (v : Tree) (es : List (List ℕ × Tree)) → find k es ≡ None → put k v es ≡ List.insert es (rank_of_key k es) (k, v)
put_new k v es h = ap (λ o. put_found o k v es) h ∙ insert_is k v es

pub map_insert : {A B : Type 0} (f : A → B) (xs : List A) (i : ℕ) (x : A) → map f (List.insert xs i x) ≡ List.insert (map f xs) i (f x)
map_insert f [] zero x = refl
map_insert f [] (suc i) x = refl
map_insert f (y ∷ xs) zero x = refl
map_insert f (y ∷ xs) (suc i) x = ap (λ l. f y ∷ l) (map_insert f xs i x)

-- what goes on below
pub edit_through : (e : Edit) (u old t : Tree) (p : Part) (f : Tree → Option Tree) (plug : Tree → Tree) (o : Option Tree) → IsEdit e u (f u) → o ≡ Some u → ((v : Tree) → exchange old p v ≡ Some (plug v)) → plug u ≡ old → IsEdit (edit_map plug e) old (through old p f o)
edit_through (made v) u old t p f plug o h b x s = ap (through old p f) b ∙ ap (option_and_then (exchange old p)) h ∙ x v
edit_through (fails v) u old t p f plug o h b x s = (ap (through old p f) b ∙ ap (option_and_then (exchange old p)) h.0, ap plug h.1 ∙ s)
edit_through (short v) u old t p f plug o h b x s = ap plug h ∙ s

-- what is found in a list
at_none : (xs : List Tree) (z : ℤ) → index_of (length xs) z ≡ None → item_at xs z ≡ None
at_none xs z h = ap (option_and_then (slice_get xs)) h

at_some : (xs : List Tree) (z : ℤ) (k : ℕ) (u : Tree) → index_of (length xs) z ≡ Some k → slice_get xs k ≡ Some u → item_at xs z ≡ Some u
at_some xs z k u h g = ap (option_and_then (slice_get xs)) h ∙ g

closed_get : (zs : List ℤ) (i : ℕ) → is_closed (slice_get (map int zs) i) ≡ true
closed_get [] i = refl
closed_get (z ∷ zs) zero = refl
closed_get (z ∷ zs) (suc i) = closed_get zs i

ints_closed : (zs : List ℤ) (o : Option ℕ) → is_closed (option_and_then (slice_get (map int zs)) o) ≡ true
ints_closed zs None = refl
ints_closed zs (Some i) = closed_get zs i

pub closed_ints : (zs : List ℤ) (ts : Items) (z : ℤ) → of_items ts ≡ map int zs → is_closed (item_at (of_items ts) z) ≡ true
closed_ints zs ts z e = ap (λ l. is_closed (item_at l z)) e ∙ ints_closed zs (index_of (length (map int zs)) z)

pub closed_none : (ts : Items) (xs : List Tree) (z : ℤ) → of_items ts ≡ xs → index_of (length xs) z ≡ None → is_closed (item_at (of_items ts) z) ≡ true
closed_none ts xs z e h = ap (λ l. is_closed (item_at l z)) e ∙ ap is_closed (at_none xs z h)

pub item_child : (ts : Items) (xs : List Tree) (z : ℤ) (k : ℕ) (u : Tree) → of_items ts ≡ xs → index_of (length xs) z ≡ Some k → slice_get xs k ≡ Some u → item_at (of_items ts) z ≡ Some u
item_child ts xs z k u e h g = ap (λ l. item_at l z) e ∙ at_some xs z k u h g

pub item_exchange : (ts : Items) (xs ys : List Tree) (z : ℤ) (k : ℕ) (v : Tree) → of_items ts ≡ xs → index_of (length xs) z ≡ Some k → slice_set ys k v ≡ slice_set xs k v → spec.put_item (of_items ts) z v ≡ Some (spec.list_of (slice_set ys k v))
item_exchange ts xs ys z k v e h g = ap (λ l. spec.put_item l z v) e ∙ ap (option_map (λ k. spec.list_of (slice_set xs k v))) h ∙ ap (λ l. Some (spec.list_of l)) (sym g)

pub item_same : (xs : List Tree) (k : ℕ) (u : Tree) → slice_get xs k ≡ Some u → slice_set xs k u ≡ xs
item_same [] k u h = refl
item_same (x ∷ xs) zero u h = let g : x ≡ u = cc in ap (λ w. w ∷ xs) (sym g)
item_same (x ∷ xs) (suc k) u h = ap (λ l. x ∷ l) (item_same xs k u h)

pub same : {A : Type 0} (x : A) → x ≡ x
same x = refl

pub below_list : (ts : Items) (p : Part) → below (list ts) p ≡ child (list ts) p
below_list ts (key k) = refl
below_list ts (place i) = refl

pub below_last_list : (ts : Items) (p : Part) → spec.below_last (list ts) p ≡ child (list ts) p
below_last_list ts (key k) = refl
below_last_list ts (place i) = refl

pub added : (k name : List ℕ) (v : Nbt) (xs new : List (List ℕ × Nbt)) (at : ℕ) → find k (map entry xs) ≡ None → at ≡ rank_of_key k (map entry xs) → name ≡ k → new ≡ List.insert xs at (name, v) → map entry new ≡ put k (view v) (map entry xs)
added k name v xs new at h r n e =
    ap (map entry) e ∙ map_insert entry xs at (name, v)
    ∙ ap (λ i. List.insert (map entry xs) i (name, view v)) r
    ∙ ap (λ w. List.insert (map entry xs) (rank_of_key k (map entry xs)) (w, view v)) n
    ∙ sym (put_new k (view v) (map entry xs) h)

-- an element exchanged
pub put_in_is : (xs : List Tree) (z : ℤ) (k : ℕ) (v : Tree) (b : Bool) → index_of (length xs) z ≡ Some k → is_of_kind (slice_get xs k) v ≡ b → put_in xs z v ≡ (if b then Some (spec.list_of (slice_set xs k v)) else None)
put_in_is xs z k v b h e =
    ap (λ o. if is_of_kind (option_and_then (slice_get xs) o) v then option_map (λ k. spec.list_of (slice_set xs k v)) o else None) h
    ∙ ap (λ b. if b then Some (spec.list_of (slice_set xs k v)) else None) e

pub get_view : (xs : List Nbt) (k : ℕ) (d : Nbt) → k < length xs → slice_get (map view xs) k ≡ Some (view (slice_index_or xs k d))
get_view [] k d h = absurd (omega arith)
get_view (x ∷ xs) zero d h = refl
get_view (x ∷ xs) (suc k) d h = get_view xs k d (omega arith)

pub get_int : (zs : List ℤ) (k : ℕ) → k < length zs → slice_get (map int zs) k ≡ Some (int (slice_index_or zs k (pos 0)))
get_int [] k h = absurd (omega arith)
get_int (x ∷ xs) zero h = refl
get_int (x ∷ xs) (suc k) h = get_int xs k (omega arith)

pub put_found_none : (k : List ℕ) (v : Tree) (es : List (List ℕ × Tree)) (i : ℕ) → index_of_key k es ≡ Some i → i < length es → put k v es ≡ with_value i v es
put_found_none k v es i h lt = go (value_at i es) refl
  where
    has : (es : List (List ℕ × Tree)) (i : ℕ) → i < length es → value_at i es ≡ None → ⊥
    has [] i lt n = absurd (omega arith)
    has (e ∷ es) zero lt n = cc
    has (e ∷ es) (suc i) lt n = has es i (omega arith) n

    go : (o : Option Tree) → value_at i es ≡ o → put k v es ≡ with_value i v es
    go None e = absurd (has es i lt e)
    go (Some u) e = put_at k es i u v h e

-- what is added below a missing key
pub adds_field : (e : Edit) (es : List (List ℕ × Tree)) (fs : Fields) (k : List ℕ) (v : Tree) → of_fields fs ≡ es → compound fs ≡ spec.compound_of es → AddsField e es k v → IsEdit e (compound fs) (Some (spec.compound_of (put k v (of_fields fs))))
adds_field (made t) es fs k v o c h = ap (λ l. Some (spec.compound_of (put k v l))) o ∙ ap Some (sym h)
adds_field (fails t) es fs k v o c h = absurd h
adds_field (short t) es fs k v o c h = h ∙ sym c

-- what is made for a key that a compound lacks
pub missing : (e d : Edit) (es : List (List ℕ × Tree)) (t u : Tree) (p : Part) (k : List ℕ) (f : Tree → Option Tree) (o : Option Tree) → p ≡ key k → t ≡ spec.compound_of es → o ≡ Some u → IsEdit d u (f u) → AddsDone e es p d → IsEdit e t (through t p f o)
missing e d es t u p k f o ep et eo g a =
    let P : Tree → Part → Type 0 = λ t p. IsEdit e t (option_and_then (exchange t p) (f u)) in
    let Q : Option Tree → Type 0 = λ o. IsEdit e t (through t p f o) in
    let A : Part → Type 0 = λ p. AddsDone e es p d in
    subst Q (sym eo) (subst (λ t. P t p) (sym et) (subst (P (spec.compound_of es)) (sym ep) (go e d g (subst A ep a))))
  where
    added_made : (e : Edit) (v : Tree) → AddsField e es k v → IsEdit e (spec.compound_of es) (Some (spec.compound_of (put k v (of_fields (fields es)))))
    added_made (made t) v a = ap (λ l. Some (spec.compound_of (put k v l))) (of_fields-fields es) ∙ ap Some (sym a)
    added_made (fails t) v a = absurd a
    added_made (short t) v a = a

    go : (e d : Edit) → IsEdit d u (f u) → AddsDone e es (key k) d → IsEdit e (spec.compound_of es) (option_and_then (exchange (spec.compound_of es) (key k)) (f u))
    go e (made v) g a = let R : Option Tree → Type 0 = λ o. IsEdit e (spec.compound_of es) (option_and_then (exchange (spec.compound_of es) (key k)) o) in subst R (sym g) (added_made e v a)
    go e (fails v) g a =
        let R : Edit → Type 0 = λ e. IsEdit e (spec.compound_of es) (option_and_then (exchange (spec.compound_of es) (key k)) (f u)) in
        subst R (sym a) (ap (option_and_then (exchange (spec.compound_of es) (key k))) g.0, refl)
    go e (short v) g a =
        let R : Edit → Type 0 = λ e. IsEdit e (spec.compound_of es) (option_and_then (exchange (spec.compound_of es) (key k)) (f u)) in
        subst R (sym a) refl

-- what a change goes on in where a compound lacks the key
pub below_missing : (t : Tree) (es : List (List ℕ × Tree)) (p : Part) (k : List ℕ) → p ≡ key k → t ≡ spec.compound_of es → find k es ≡ None → below t p ≡ Some (compound no_fields)
below_missing t es p k ep et h =
    ap (λ p. below t p) ep ∙ ap (λ t. below t (key k)) et ∙ ap (λ l. Some (unwrap_or (find k l) (compound no_fields))) (of_fields-fields es) ∙ ap (λ o. Some (unwrap_or o (compound no_fields))) h

pub below_last_missing : (t : Tree) (es : List (List ℕ × Tree)) (p : Part) (k : List ℕ) → p ≡ key k → t ≡ spec.compound_of es → find k es ≡ None → spec.below_last t p ≡ Some (list spec.no_items)
below_last_missing t es p k ep et h =
    ap (λ p. spec.below_last t p) ep ∙ ap (λ t. spec.below_last t (key k)) et ∙ ap (λ l. Some (unwrap_or (find k l) (list spec.no_items))) (of_fields-fields es) ∙ ap (λ o. Some (unwrap_or o (list spec.no_items))) h

-- a change of a list's elements is one of the list
pub edit_list : (e : Edit) (ts : Items) (xs : List Tree) (f : List Tree → Option Tree) → of_items ts ≡ xs → list ts ≡ spec.list_of xs → IsEdit e (spec.list_of xs) (f xs) → IsEdit e (list ts) (f (of_items ts))
edit_list e ts xs f o l h =
    let P : Tree → List Tree → Type 0 = λ t xs. IsEdit e t (f xs) in
    subst (λ t. P t (of_items ts)) (sym l) (subst (P (spec.list_of xs)) (sym o) h)

-- an element added to a list that has some
pub add_ints : (zs : List ℤ) (v : Tree) (b : Bool) → 0 < length zs → nat_eq 0 (kind v) ≡ b → spec.add_item (map int zs) v ≡ (if b then Some (spec.list_of (map int zs ++ v ∷ [])) else None)
add_ints [] v b l h = absurd (omega arith)
add_ints (z ∷ zs) v b l h = ap (λ b. if b then Some (spec.list_of (map int (z ∷ zs) ++ v ∷ [])) else None) h

pub first_and_rest : {A B : Type 0} (f : A → B) (xs : List A) (q : A) → 1 ≤ length xs → q ≡ get_or xs 0 q → map f xs ≡ f q ∷ map f (take (length xs - 1) (drop 1 xs))
first_and_rest f [] q h e = absurd (omega arith)
first_and_rest f (x ∷ xs) q h e =
    let g : take (length (x ∷ xs) - 1) (drop 1 (x ∷ xs)) ≡ xs = grind (arith, common_steps) in
    ap (λ w. f w ∷ map f xs) (sym e) ∙ ap (λ l. f q ∷ map f l) (sym g)

pub map_remove : {A B : Type 0} (f : A → B) (xs : List A) (k : ℕ) → map f (List.remove xs k) ≡ List.remove (map f xs) k
map_remove f [] zero = refl
map_remove f [] (suc k) = refl
map_remove f (x ∷ xs) zero = refl
map_remove f (x ∷ xs) (suc k) = ap (λ l. f x ∷ l) (map_remove f xs k)

abbrev removed_in : Option ℕ → List (List ℕ × Tree) → List (List ℕ × Tree)
removed_in None es = es
removed_in (Some i) es = List.remove es i

pub without_is : (k : List ℕ) (es : List (List ℕ × Tree)) (o : Option ℕ) (i : ℕ) → index_of_key k es ≡ Some i → without k es ≡ List.remove es i
without_is k es o i h = go es ∙ ap (λ o. removed_in o es) h
  where
    step : (e : List ℕ × Tree) (es : List (List ℕ × Tree)) (b : Bool) (o : Option ℕ) → without k es ≡ removed_in o es → (if b then es else e ∷ without k es) ≡ removed_in (index_found b o) (e ∷ es)
    step e es true o ih = refl
    step e es false None ih = ap (λ l. e ∷ l) ih
    step e es false (Some i) ih = ap (λ l. e ∷ l) ih

    go : (es : List (List ℕ × Tree)) → without k es ≡ removed_in (index_of_key k es) es
    go [] = refl
    go (e ∷ es) = step e es (bytes_eq k e.0) (index_of_key k es) (go es)

pub removed : (xs ys : List Tree) (z : ℤ) (k : ℕ) → index_of (length xs) z ≡ Some k → ys ≡ List.remove xs k → without_at xs z ≡ Some (spec.list_of ys)
removed xs ys z k h e = ap (option_map (λ k. spec.list_of (List.remove xs k))) h ∙ ap (λ l. Some (spec.list_of l)) (sym e)

pub left_out : (k : List ℕ) (fs : Fields) (es ys : List (List ℕ × Tree)) (i : ℕ) (t : Tree) → of_fields fs ≡ es → index_of_key k es ≡ Some i → i < length es → ys ≡ List.remove es i → t ≡ spec.compound_of ys → option_map (λ u. spec.compound_of (without k (of_fields fs))) (find k (of_fields fs)) ≡ Some t
left_out k fs es ys i t o h lt e d =
    ap (λ l. option_map (λ u. spec.compound_of (without k l)) (find k l)) o
    ∙ ap (option_map (λ u. spec.compound_of (without k es))) (find_is k es ∙ ap (λ o. value_in o es) h ∙ value_there es i lt)
    ∙ ap (λ l. Some (spec.compound_of l)) (without_is k es None i h ∙ sym e) ∙ ap Some (sym d)
  where
    value_there : (es : List (List ℕ × Tree)) (i : ℕ) → i < length es → value_at i es ≡ Some (get_or es i ([], compound no_fields)).1
    value_there [] i lt = absurd (omega arith)
    value_there (e ∷ es) zero lt = refl
    value_there (e ∷ es) (suc i) lt = value_there es i (omega arith)

pub left_none : (k : List ℕ) (fs : Fields) (es : List (List ℕ × Tree)) → of_fields fs ≡ es → index_of_key k es ≡ None → option_map (λ u. spec.compound_of (without k (of_fields fs))) (find k (of_fields fs)) ≡ None
left_none k fs es o h = ap (λ l. option_map (λ u. spec.compound_of (without k l)) (find k l)) o ∙ ap (option_map (λ u. spec.compound_of (without k es))) (find_none k es h)

pub nothing : (t : Tree) (p : Part) (k : List ℕ) (es : List (List ℕ × Tree)) → p ≡ key k → t ≡ spec.compound_of es → find k es ≡ None → child t p ≡ None
nothing t p k es ep et h =
    ap (λ p. child t p) ep ∙ ap (λ t. child t (key k)) et ∙ ap (find k) (of_fields-fields es) ∙ h
