-- What `set`, `append` and `remove` leave of a shaped tree is shaped.
use Rattle.std.proofs.Common.{◌≡◌, ℕ, zero, suc, List, [], ◌∷◌, ◌++◌, Option, Some, None, Bool, true, false, refl, sym, ap, ◌∙◌, subst, arith}
use Rattle.std.specs.Prelude.{ℤ, ◌&&◌, if◌then◌else◌, nat_eq, nat_le, option_and_then, slice_get, slice_set}
use Rattle.std.specs.List.{list_all, remove as remove_item}
use Rattle.std.specs.Str.{bytes_eq}
use Rattle.std.specs.Ordering.{nat_cmp, is_lt}
use Rattle.std.specs.Cmp.Lexicographic.{slice_cmp}
use Rattle.std.proofs.lemmas.Bool.{and_parts, and_from, eqb-true, le-leb, leb-true}
use Rattle.mc_nbt.specs.Word.{is_key}
use Rattle.mc_nbt.specs.Path.{is_part}
use Rattle.mc_nbt.specs.Shape.{all_of_kind, is_one_kind, is_rising, is_shaped, items_shaped, fields_shaped, IsTree}
use Rattle.mc_nbt.specs.Tree.{Tree, int, string, list, compound, Items, item, Fields, no_fields, field, Part, key, place, items, of_items, fields, of_fields, list_of, compound_of, find, replace, insert, put, put_found, item_at, child, below, below_last, put_item, exchange, is_of_kind, put_last, set_at, append_at, remove_at, without, leave_out, add_to, kind, depth, select, is_already, within_depth, set, append, remove}
use Rattle.mc_nbt.proofs.TreeLemmas.{below_last_child, items-of_items, fields-of_fields, below_child, of_items-items, of_fields-fields}
use Rattle.mc_nbt.proofs.StepLemmas.{Passes, through_passes, child_cases, below_cases, below_last_cases, exchange_cases, put_last_exchanges, leave_out_cases, add_to_cases}
use Rattle.mc_nbt.proofs.DepthLaws.{remove_depth}
use Rattle.mc_nbt.proofs.OrderLemmas.{is_rising_put, is_rising_without}

-- a list or a compound by its plain list
list_shaped : (ts : List Tree) → items_shaped (items ts) ≡ true → is_one_kind ts ≡ true → is_shaped (list_of ts) ≡ true
list_shaped ts h g = and_from _ _ h (ap is_one_kind (of_items-items ts) ∙ g)

compound_shaped : (es : List (List ℕ × Tree)) → fields_shaped (fields es) ≡ true → is_rising es ≡ true → is_shaped (compound_of es) ≡ true
compound_shaped es h g = and_from _ _ h (ap is_rising (of_fields-fields es) ∙ g)

items_shaped_of : (ts : Items) → is_shaped (list ts) ≡ true → items_shaped (items (of_items ts)) ≡ true
items_shaped_of ts h = ap items_shaped (items-of_items ts) ∙ (and_parts (items_shaped ts) (is_one_kind (of_items ts)) h).0

one_kind_of : (ts : Items) → is_shaped (list ts) ≡ true → is_one_kind (of_items ts) ≡ true
one_kind_of ts h = (and_parts (items_shaped ts) (is_one_kind (of_items ts)) h).1

fields_shaped_of : (fs : Fields) → is_shaped (compound fs) ≡ true → fields_shaped (fields (of_fields fs)) ≡ true
fields_shaped_of fs h = ap fields_shaped (fields-of_fields fs) ∙ (and_parts (fields_shaped fs) (is_rising (of_fields fs)) h).0

rising_of : (fs : Fields) → is_shaped (compound fs) ≡ true → is_rising (of_fields fs) ≡ true
rising_of fs h = (and_parts (fields_shaped fs) (is_rising (of_fields fs)) h).1

-- fields
field_shaped : (k : List ℕ) (v : Tree) (fs : Fields) → is_key k ≡ true → is_shaped v ≡ true → fields_shaped fs ≡ true → fields_shaped (field k v fs) ≡ true
field_shaped k v fs hk hv hs = and_from _ _ hk (and_from _ _ hv hs)

field_key : (k : List ℕ) (v : Tree) (fs : Fields) → fields_shaped (field k v fs) ≡ true → is_key k ≡ true
field_key k v fs h = (and_parts (is_key k) _ h).0

field_value : (k : List ℕ) (v : Tree) (fs : Fields) → fields_shaped (field k v fs) ≡ true → is_shaped v ≡ true
field_value k v fs h = (and_parts (is_shaped v) _ (and_parts (is_key k) _ h).1).0

field_rest : (k : List ℕ) (v : Tree) (fs : Fields) → fields_shaped (field k v fs) ≡ true → fields_shaped fs ≡ true
field_rest k v fs h = (and_parts (is_shaped v) _ (and_parts (is_key k) _ h).1).1

find_shaped : (k : List ℕ) (es : List (List ℕ × Tree)) (u : Tree) → fields_shaped (fields es) ≡ true → find k es ≡ Some u → is_shaped u ≡ true
find_shaped k [] u s h = absurd cc
find_shaped k (e ∷ es) u s h = go (bytes_eq k e.0) h (find_shaped k es u (field_rest e.0 e.1 (fields es) s))
  where
    go : (b : Bool) → (if b then Some e.1 else find k es) ≡ Some u → (find k es ≡ Some u → is_shaped u ≡ true) → is_shaped u ≡ true
    go true h ih = let g : u ≡ e.1 = cc in ap is_shaped g ∙ field_value e.0 e.1 (fields es) s
    go false h ih = ih h

replace_shaped : (k : List ℕ) (v : Tree) (es : List (List ℕ × Tree)) → is_shaped v ≡ true → fields_shaped (fields es) ≡ true → fields_shaped (fields (replace k v es)) ≡ true
replace_shaped k v [] hv s = refl
replace_shaped k v (e ∷ es) hv s = go (bytes_eq k e.0) (replace_shaped k v es hv (field_rest e.0 e.1 (fields es) s))
  where
    go : (b : Bool) → fields_shaped (fields (replace k v es)) ≡ true → fields_shaped (fields (if b then (e.0, v) ∷ es else e ∷ replace k v es)) ≡ true
    go true ih = field_shaped e.0 v (fields es) (field_key e.0 e.1 (fields es) s) hv (field_rest e.0 e.1 (fields es) s)
    go false ih = field_shaped e.0 e.1 (fields (replace k v es)) (field_key e.0 e.1 (fields es) s) (field_value e.0 e.1 (fields es) s) ih

insert_shaped : (k : List ℕ) (v : Tree) (es : List (List ℕ × Tree)) → is_key k ≡ true → is_shaped v ≡ true → fields_shaped (fields es) ≡ true → fields_shaped (fields (insert k v es)) ≡ true
insert_shaped k v [] hk hv s = field_shaped k v no_fields hk hv refl
insert_shaped k v (e ∷ es) hk hv s = go (is_lt (slice_cmp nat_cmp k e.0)) (insert_shaped k v es hk hv (field_rest e.0 e.1 (fields es) s))
  where
    go : (b : Bool) → fields_shaped (fields (insert k v es)) ≡ true → fields_shaped (fields (if b then (k, v) ∷ e ∷ es else e ∷ insert k v es)) ≡ true
    go true ih = field_shaped k v (fields (e ∷ es)) hk hv s
    go false ih = field_shaped e.0 e.1 (fields (insert k v es)) (field_key e.0 e.1 (fields es) s) (field_value e.0 e.1 (fields es) s) ih

put_shaped : (k : List ℕ) (v : Tree) (es : List (List ℕ × Tree)) → (find k es ≡ None → is_key k ≡ true) → is_shaped v ≡ true → fields_shaped (fields es) ≡ true → fields_shaped (fields (put k v es)) ≡ true
put_shaped k v es hk hv s = go (find k es) refl
  where
    go : (o : Option Tree) → find k es ≡ o → fields_shaped (fields (put_found o k v es)) ≡ true
    go None f = insert_shaped k v es (hk f) hv s
    go (Some u) f = replace_shaped k v es hv s

without_shaped : (k : List ℕ) (es : List (List ℕ × Tree)) → fields_shaped (fields es) ≡ true → fields_shaped (fields (without k es)) ≡ true
without_shaped k [] s = refl
without_shaped k (e ∷ es) s = go (bytes_eq k e.0) (without_shaped k es (field_rest e.0 e.1 (fields es) s))
  where
    go : (b : Bool) → fields_shaped (fields (without k es)) ≡ true → fields_shaped (fields (if b then es else e ∷ without k es)) ≡ true
    go true ih = field_rest e.0 e.1 (fields es) s
    go false ih = field_shaped e.0 e.1 (fields (without k es)) (field_key e.0 e.1 (fields es) s) (field_value e.0 e.1 (fields es) s) ih

-- elements
get_shaped : (ts : List Tree) (i : ℕ) (u : Tree) → items_shaped (items ts) ≡ true → slice_get ts i ≡ Some u → is_shaped u ≡ true
get_shaped [] i u s h = absurd cc
get_shaped (t ∷ ts) zero u s h = let g : u ≡ t = cc in ap is_shaped g ∙ (and_parts (is_shaped t) _ s).0
get_shaped (t ∷ ts) (suc i) u s h = get_shaped ts i u (and_parts (is_shaped t) _ s).1 h

slice_set_shaped : (ts : List Tree) (i : ℕ) (v : Tree) → is_shaped v ≡ true → items_shaped (items ts) ≡ true → items_shaped (items (slice_set ts i v)) ≡ true
slice_set_shaped [] i v hv s = refl
slice_set_shaped (t ∷ ts) zero v hv s = and_from _ _ hv (and_parts (is_shaped t) _ s).1
slice_set_shaped (t ∷ ts) (suc i) v hv s = and_from _ _ (and_parts (is_shaped t) _ s).0 (slice_set_shaped ts i v hv (and_parts (is_shaped t) _ s).1)

all_of_kind_set : (a : ℕ) (ts : List Tree) (i : ℕ) (v : Tree) → ((u : Tree) → slice_get ts i ≡ Some u → kind u ≡ kind v) → all_of_kind a (slice_set ts i v) ≡ all_of_kind a ts
all_of_kind_set a [] i v same = refl
all_of_kind_set a (t ∷ ts) zero v same = ap (λ k. nat_eq a k && all_of_kind a ts) (sym (same t refl))
all_of_kind_set a (t ∷ ts) (suc i) v same = ap (λ b. nat_eq a (kind t) && b) (all_of_kind_set a ts i v same)

one_kind_set : (ts : List Tree) (i : ℕ) (v : Tree) → ((u : Tree) → slice_get ts i ≡ Some u → kind u ≡ kind v) → is_one_kind (slice_set ts i v) ≡ is_one_kind ts
one_kind_set [] i v same = refl
one_kind_set (t ∷ ts) zero v same = ap (λ k. all_of_kind k ts) (sym (same t refl))
one_kind_set (t ∷ ts) (suc i) v same = all_of_kind_set (kind t) ts i v same

remove_item_shaped : (ts : List Tree) (i : ℕ) → items_shaped (items ts) ≡ true → items_shaped (items (remove_item ts i)) ≡ true
remove_item_shaped [] zero s = refl
remove_item_shaped [] (suc i) s = refl
remove_item_shaped (t ∷ ts) zero s = (and_parts (is_shaped t) _ s).1
remove_item_shaped (t ∷ ts) (suc i) s = and_from _ _ (and_parts (is_shaped t) _ s).0 (remove_item_shaped ts i (and_parts (is_shaped t) _ s).1)

all_of_kind_remove : (a : ℕ) (ts : List Tree) (i : ℕ) → all_of_kind a ts ≡ true → all_of_kind a (remove_item ts i) ≡ true
all_of_kind_remove a [] zero h = refl
all_of_kind_remove a [] (suc i) h = refl
all_of_kind_remove a (t ∷ ts) zero h = (and_parts (nat_eq a (kind t)) _ h).1
all_of_kind_remove a (t ∷ ts) (suc i) h = and_from _ _ (and_parts (nat_eq a (kind t)) _ h).0 (all_of_kind_remove a ts i (and_parts (nat_eq a (kind t)) _ h).1)

one_kind_all : (a : ℕ) (ts : List Tree) → all_of_kind a ts ≡ true → is_one_kind ts ≡ true
one_kind_all a [] h = refl
one_kind_all a (t ∷ ts) h =
    let g = and_parts (nat_eq a (kind t)) (all_of_kind a ts) h in
    subst (λ k. all_of_kind k ts ≡ true) (eqb-true a (kind t) g.0) g.1

one_kind_remove : (ts : List Tree) (i : ℕ) → is_one_kind ts ≡ true → is_one_kind (remove_item ts i) ≡ true
one_kind_remove [] zero h = refl
one_kind_remove [] (suc i) h = refl
one_kind_remove (t ∷ ts) zero h = one_kind_all (kind t) ts h
one_kind_remove (t ∷ ts) (suc i) h = all_of_kind_remove (kind t) ts i h

add_item_shaped : (ts : List Tree) (v : Tree) → is_shaped v ≡ true → items_shaped (items ts) ≡ true → items_shaped (items (ts ++ v ∷ [])) ≡ true
add_item_shaped [] v hv s = and_from _ _ hv refl
add_item_shaped (t ∷ ts) v hv s = and_from _ _ (and_parts (is_shaped t) _ s).0 (add_item_shaped ts v hv (and_parts (is_shaped t) _ s).1)

all_of_kind_add : (a : ℕ) (ts : List Tree) (v : Tree) → all_of_kind a ts ≡ true → nat_eq a (kind v) ≡ true → all_of_kind a (ts ++ v ∷ []) ≡ true
all_of_kind_add a [] v h g = and_from _ _ g refl
all_of_kind_add a (t ∷ ts) v h g = and_from _ _ (and_parts (nat_eq a (kind t)) _ h).0 (all_of_kind_add a ts v (and_parts (nat_eq a (kind t)) _ h).1 g)

-- one step of a path
pub child_shaped : (t : Tree) (p : Part) (u : Tree) → child t p ≡ Some u → is_shaped t ≡ true → is_shaped u ≡ true
child_shaped = child_cases (λ t p u. is_shaped t ≡ true → is_shaped u ≡ true)
    (λ fs k u h s. find_shaped k (of_fields fs) u (fields_shaped_of fs s) h)
    (λ ts i k u n h s. get_shaped (of_items ts) k u (items_shaped_of ts s) h)

below_shaped : (t : Tree) (p : Part) (u : Tree) → below t p ≡ Some u → is_shaped t ≡ true → is_shaped u ≡ true
below_shaped = below_cases (λ t p u. is_shaped t ≡ true → is_shaped u ≡ true) child_shaped (λ fs k h s. refl)

below_last_shaped : (t : Tree) (p : Part) (u : Tree) → below_last t p ≡ Some u → is_shaped t ≡ true → is_shaped u ≡ true
below_last_shaped = below_last_cases (λ t p u. is_shaped t ≡ true → is_shaped u ≡ true) child_shaped (λ fs k h s. refl)

add_to_shaped : (v t t' : Tree) → add_to v t ≡ Some t' → is_shaped v ≡ true → is_shaped t ≡ true → is_shaped t' ≡ true
add_to_shaped = add_to_cases (λ v t t'. is_shaped v ≡ true → is_shaped t ≡ true → is_shaped t' ≡ true)
    (λ v hv s. list_shaped (v ∷ []) (and_from _ _ hv refl) refl)
    (λ v t ts e hv s. list_shaped ((t ∷ of_items ts) ++ v ∷ []) (add_item_shaped (t ∷ of_items ts) v hv (items_shaped_of (item t ts) s)) (all_of_kind_add (kind t) (of_items ts) v (one_kind_of (item t ts) s) e))

leave_out_shaped : (t : Tree) (p : Part) (t' : Tree) → leave_out t p ≡ Some t' → is_shaped t ≡ true → is_shaped t' ≡ true
leave_out_shaped = leave_out_cases (λ t p t'. is_shaped t ≡ true → is_shaped t' ≡ true)
    (λ fs k u h s. compound_shaped (without k (of_fields fs)) (without_shaped k (of_fields fs) (fields_shaped_of fs s)) (is_rising_without k (of_fields fs) (rising_of fs s)))
    (λ ts i k h s. list_shaped (remove_item (of_items ts) k) (remove_item_shaped (of_items ts) k (items_shaped_of ts s)) (one_kind_remove (of_items ts) k (one_kind_of ts s)))

-- a value that may stand at a step: an element of the kind of the one before, or a field under a key
record Suits (t : Tree) (p : Part) (v : Tree) : Type 0 where
  same_kind : (i : ℤ) (u : Tree) → p ≡ place i → child t p ≡ Some u → kind u ≡ kind v
  is_new_key : (k : List ℕ) → p ≡ key k → child t p ≡ None → is_key k ≡ true

exchange_shaped : (t : Tree) (p : Part) (v t' : Tree) → exchange t p v ≡ Some t' → is_shaped t ≡ true → is_shaped v ≡ true → Suits t p v → is_shaped t' ≡ true
exchange_shaped = exchange_cases (λ t p v t'. is_shaped t ≡ true → is_shaped v ≡ true → Suits t p v → is_shaped t' ≡ true)
    (λ fs k v s hv suits. compound_shaped (put k v (of_fields fs)) (put_shaped k v (of_fields fs) (suits.is_new_key k refl) hv (fields_shaped_of fs s)) (is_rising_put k v (of_fields fs) (rising_of fs s)))
    (λ ts i v k h s hv suits. list_shaped (slice_set (of_items ts) k v) (slice_set_shaped (of_items ts) k v hv (items_shaped_of ts s))
    (one_kind_set (of_items ts) k v (λ u e. suits.same_kind i u refl (ap (option_and_then (slice_get (of_items ts))) h ∙ e)) ∙ one_kind_of ts s))

part_key : (p : Part) (k : List ℕ) → is_part p ≡ true → p ≡ key k → is_key k ≡ true
part_key p k h e = sym (ap is_part e) ∙ h

put_last_same_kind : (t : Tree) (p : Part) (v t' : Tree) → put_last t p v ≡ Some t' → (i : ℤ) (u : Tree) → p ≡ place i → child t p ≡ Some u → kind u ≡ kind v
put_last_same_kind (list ts) (place j) v t' h i u e g = go (item_at (of_items ts) j) g h
  where
    eq : (b : Bool) → nat_eq (kind u) (kind v) ≡ b → (if b then put_item (of_items ts) j v else None) ≡ Some t' → kind u ≡ kind v
    eq true e h = eqb-true (kind u) (kind v) e
    eq false e h = absurd cc

    go : (o : Option Tree) → o ≡ Some u → (if is_of_kind o v then put_item (of_items ts) j v else None) ≡ Some t' → kind u ≡ kind v
    go None g h = absurd cc
    go (Some w) g h = let same : w ≡ u = cc in eq (nat_eq (kind u) (kind v)) refl (sym (ap (λ w. if nat_eq (kind w) (kind v) then put_item (of_items ts) j v else None) same) ∙ h)
put_last_same_kind (compound fs) (key k) v t' h i u e g = absurd cc
put_last_same_kind (int z) p v t' h i u e g = absurd cc
put_last_same_kind (string s) p v t' h i u e g = absurd cc
put_last_same_kind (compound fs) (place j) v t' h i u e g = absurd cc
put_last_same_kind (list ts) (key k) v t' h i u e g = absurd cc

-- the root stays of its kind
exchange_kind : (t : Tree) (p : Part) (v t' : Tree) → exchange t p v ≡ Some t' → kind t' ≡ kind t
exchange_kind = exchange_cases (λ t p v t'. kind t' ≡ kind t) (λ fs k v. refl) (λ ts i v k h. refl)

set_kind : (p : Part) (ps : List Part) (v t t' : Tree) → set_at p ps v t ≡ Some t' → kind t' ≡ kind t
set_kind p [] v t t' h = exchange_kind t p v t' (put_last_exchanges t p v t' h)
set_kind p (q ∷ ps) v t t' h =
    let s : Passes t p (set_at q ps v) (below t p) t' = through_passes t p (set_at q ps v) (below t p) t' h in
    exchange_kind t p s.after t' s.exchanged

append_kind : (p : Part) (ps : List Part) (v t t' : Tree) → append_at p ps v t ≡ Some t' → kind t' ≡ kind t
append_kind p [] v t t' h =
    let s : Passes t p (add_to v) (below_last t p) t' = through_passes t p (add_to v) (below_last t p) t' h in
    exchange_kind t p s.after t' s.exchanged
append_kind p (q ∷ ps) v t t' h =
    let s : Passes t p (append_at q ps v) (below t p) t' = through_passes t p (append_at q ps v) (below t p) t' h in
    exchange_kind t p s.after t' s.exchanged

remove_kind : (p : Part) (ps : List Part) (t t' : Tree) → remove_at p ps t ≡ Some t' → kind t' ≡ kind t
remove_kind p [] t t' h = leave_out_cases (λ t p t'. kind t' ≡ kind t) (λ fs k u h. refl) (λ ts i k h. refl) t p t' h
remove_kind p (q ∷ ps) t t' h =
    let s : Passes t p (remove_at q ps) (child t p) t' = through_passes t p (remove_at q ps) (child t p) t' h in
    exchange_kind t p s.after t' s.exchanged

below_suits : (t : Tree) (p : Part) (u w : Tree) → is_part p ≡ true → ((v : Tree) → child t p ≡ Some v → u ≡ v) → kind w ≡ kind u → Suits t p w
below_suits t p u w hp only same = record {
  same_kind = λ i v e h. let g : u ≡ v = only v h in sym (ap kind g) ∙ sym same;
  is_new_key = λ k e h. part_key p k hp e;
}

one_value : (o : Option Tree) (u v : Tree) → o ≡ Some u → o ≡ Some v → u ≡ v
one_value o u v h g = cc

add_to_kind : (v t t' : Tree) → add_to v t ≡ Some t' → kind t' ≡ kind t
add_to_kind = add_to_cases (λ v t t'. kind t' ≡ kind t) (λ v. refl) (λ v t ts e. refl)

-- what is left is shaped
pub set_shaped : (p : Part) (ps : List Part) (v t t' : Tree) → is_shaped t ≡ true → is_shaped v ≡ true → list_all is_part (p ∷ ps) ≡ true → set_at p ps v t ≡ Some t' → is_shaped t' ≡ true
set_shaped p [] v t t' s hv hp h =
    exchange_shaped t p v t' (put_last_exchanges t p v t' h) s hv
    record { same_kind = put_last_same_kind t p v t' h; is_new_key = λ k e g. part_key p k (and_parts (is_part p) true hp).0 e }
set_shaped p (q ∷ ps) v t t' s hv hp h =
    let parts = and_parts (is_part p) (list_all is_part (q ∷ ps)) hp in
    let steps : Passes t p (set_at q ps v) (below t p) t' = through_passes t p (set_at q ps v) (below t p) t' h in
    let u = steps.before in
    let deeper = set_shaped q ps v u steps.after (below_shaped t p u steps.found s) hv parts.1 steps.changed in
    exchange_shaped t p steps.after t' steps.exchanged s deeper
    (below_suits t p u steps.after parts.0 (λ w g. one_value (below t p) u w steps.found (below_child t w p g)) (set_kind q ps v u steps.after steps.changed))

pub append_shaped : (p : Part) (ps : List Part) (v t t' : Tree) → is_shaped t ≡ true → is_shaped v ≡ true → list_all is_part (p ∷ ps) ≡ true → append_at p ps v t ≡ Some t' → is_shaped t' ≡ true
append_shaped p [] v t t' s hv hp h =
    let steps : Passes t p (add_to v) (below_last t p) t' = through_passes t p (add_to v) (below_last t p) t' h in
    let u = steps.before in
    let deeper = add_to_shaped v u steps.after steps.changed hv (below_last_shaped t p u steps.found s) in
    exchange_shaped t p steps.after t' steps.exchanged s deeper
    (below_suits t p u steps.after (and_parts (is_part p) true hp).0 (λ w g. one_value (below_last t p) u w steps.found (below_last_child t w p g)) (add_to_kind v u steps.after steps.changed))
append_shaped p (q ∷ ps) v t t' s hv hp h =
    let parts = and_parts (is_part p) (list_all is_part (q ∷ ps)) hp in
    let steps : Passes t p (append_at q ps v) (below t p) t' = through_passes t p (append_at q ps v) (below t p) t' h in
    let u = steps.before in
    let deeper = append_shaped q ps v u steps.after (below_shaped t p u steps.found s) hv parts.1 steps.changed in
    exchange_shaped t p steps.after t' steps.exchanged s deeper
    (below_suits t p u steps.after parts.0 (λ w g. one_value (below t p) u w steps.found (below_child t w p g)) (append_kind q ps v u steps.after steps.changed))

pub remove_shaped : (p : Part) (ps : List Part) (t t' : Tree) → is_shaped t ≡ true → remove_at p ps t ≡ Some t' → is_shaped t' ≡ true
remove_shaped p [] t t' s h = leave_out_shaped t p t' h s
remove_shaped p (q ∷ ps) t t' s h =
    let steps : Passes t p (remove_at q ps) (child t p) t' = through_passes t p (remove_at q ps) (child t p) t' h in
    let u = steps.before in
    let deeper = remove_shaped q ps u steps.after (child_shaped t p u steps.found s) steps.changed in
    exchange_shaped t p steps.after t' steps.exchanged s deeper
    record {
      same_kind = λ i w e g. ap kind (one_value (child t p) w u g steps.found) ∙ sym (remove_kind q ps u steps.after steps.changed);
      is_new_key = λ k e g. let there = steps.found in absurd cc;
    }

-- what the commands leave may stand in a storage
within_parts : (o : Option Tree) (t : Tree) → option_and_then within_depth o ≡ Some t → (o ≡ Some t) × (nat_le (depth t) 64 ≡ true)
within_parts None t h = absurd cc
within_parts (Some u) t h = go (nat_le (depth u) 64) refl h
  where
    go : (b : Bool) → nat_le (depth u) 64 ≡ b → (if b then Some u else None) ≡ Some t → (Some u ≡ Some t) × (nat_le (depth t) 64 ≡ true)
    go true e h = let g : u ≡ t = cc in (h, ap (λ t. nat_le (depth t) 64) (sym g) ∙ e)
    go false e h = absurd cc

unless_some : (b : Bool) (o : Option Tree) (t : Tree) → (if b then None else o) ≡ Some t → o ≡ Some t
unless_some true o t h = absurd cc
unless_some false o t h = h

tree_shaped : (t : Tree) → IsTree t → is_shaped t ≡ true
tree_shaped t h = (and_parts (is_shaped t) _ h).0

pub set_is_tree : (p : Part) (ps : List Part) (v t t' : Tree) → IsTree t → IsTree v → list_all is_part (p ∷ ps) ≡ true → set t (p ∷ ps) v ≡ Some t' → IsTree t'
set_is_tree p ps v t t' ht hv hp h =
    let w = within_parts (set_at p ps v t) t' (unless_some (is_already (select t (p ∷ ps)) v) (option_and_then within_depth (set_at p ps v t)) t' h) in
    and_from _ _ (set_shaped p ps v t t' (tree_shaped t ht) (tree_shaped v hv) hp w.0) w.1

pub append_is_tree : (p : Part) (ps : List Part) (v t t' : Tree) → IsTree t → IsTree v → list_all is_part (p ∷ ps) ≡ true → append t (p ∷ ps) v ≡ Some t' → IsTree t'
append_is_tree p ps v t t' ht hv hp h =
    let w = within_parts (append_at p ps v t) t' h in
    and_from _ _ (append_shaped p ps v t t' (tree_shaped t ht) (tree_shaped v hv) hp w.0) w.1

pub remove_is_tree : (p : Part) (ps : List Part) (t t' : Tree) → IsTree t → remove t (p ∷ ps) ≡ Some t' → IsTree t'
remove_is_tree p ps t t' ht h =
    let d = remove_depth p ps t t' h in
    let w = leb-true (depth t) 64 (and_parts (is_shaped t) _ ht).1 in
    and_from _ _ (remove_shaped p ps t t' (tree_shaped t ht) h) (le-leb (depth t') 64 (omega arith))
