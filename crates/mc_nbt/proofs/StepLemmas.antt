-- One step of a path: what it leads to, and what is left where something else stands there.
use Rattle.std.proofs.Common.{◌≡◌, ℕ, suc, ◌<◌, List, [], ◌∷◌, length, Option, Some, None, Bool, true, false, refl, arith, subst}
use Rattle.std.specs.Prelude.{ℤ, pos, negsuc, ◌-◌, ◌++◌, nat_eq, if◌then◌else◌, nat_lt, unwrap_or, option_and_then, option_map, slice_get, slice_set}
use Rattle.std.specs.List.{remove as remove_item}
use Rattle.std.proofs.lemmas.Bool.{ltb-true}
use Rattle.mc_nbt.specs.Tree.{Tree, int, string, list, compound, Items, no_items, item, Fields, no_fields, Part, key, place, of_items, of_fields, list_of, compound_of, find, put, index_of, item_at, child, child_or, below, below_last, put_item, exchange, is_of_kind, put_last, through, without, leave_out, add_to, kind}

-- an index that a place names is one of the list's
pub index_within : (n : ℕ) (i : ℤ) (k : ℕ) → index_of n i ≡ Some k → k < n
index_within n (pos i) k h = go (nat_lt i n) refl h
  where
    go : (b : Bool) → nat_lt i n ≡ b → (if b then Some i else None) ≡ Some k → k < n
    go true e h = let g : i ≡ k = cc in let lt = ltb-true i n e in omega arith
    go false e h = absurd cc
index_within n (negsuc i) k h = go (nat_lt i n) refl h
  where
    go : (b : Bool) → nat_lt i n ≡ b → (if b then Some (n - suc i) else None) ≡ Some k → k < n
    go true e h = let g : n - suc i ≡ k = cc in let lt = ltb-true i n e in omega arith
    go false e h = absurd cc

-- what a step through a tree is made of
pub record Passes (t : Tree) (p : Part) (f : Tree → Option Tree) (o : Option Tree) (t' : Tree) : Type 0 where
  pub before : Tree
  pub after : Tree
  pub found : o ≡ Some before
  pub changed : f before ≡ Some after
  pub exchanged : exchange t p after ≡ Some t'

pub through_passes : (t : Tree) (p : Part) (f : Tree → Option Tree) (o : Option Tree) (t' : Tree) → through t p f o ≡ Some t' → Passes t p f o t'
through_passes t p f None t' h = absurd cc
through_passes t p f (Some u) t' h = go (f u) refl h
  where
    go : (o : Option Tree) → f u ≡ o → option_and_then (exchange t p) o ≡ Some t' → Passes t p f (Some u) t'
    go None e h = absurd cc
    go (Some w) e h = record { before = u; after = w; found = refl; changed = e; exchanged = h }

-- a child is a field's value or an element
pub child_cases :
    (P : Tree → Part → Tree → Type 0)
    → ((fs : Fields) (k : List ℕ) (u : Tree) → find k (of_fields fs) ≡ Some u → P (compound fs) (key k) u)
    → ((ts : Items) (i : ℤ) (k : ℕ) (u : Tree) → index_of (length (of_items ts)) i ≡ Some k → slice_get (of_items ts) k ≡ Some u → P (list ts) (place i) u)
    → (t : Tree) (p : Part) (u : Tree) → child t p ≡ Some u → P t p u
child_cases P field_case item_case (compound fs) (key k) u h = field_case fs k u h
child_cases P field_case item_case (list ts) (place i) u h = go (index_of (length (of_items ts)) i) refl h
  where
    go : (o : Option ℕ) → index_of (length (of_items ts)) i ≡ o → option_and_then (slice_get (of_items ts)) o ≡ Some u → P (list ts) (place i) u
    go None e h = absurd cc
    go (Some k) e h = item_case ts i k u e h
child_cases P field_case item_case (int z) p u h = absurd cc
child_cases P field_case item_case (string s) p u h = absurd cc
child_cases P field_case item_case (compound fs) (place i) u h = absurd cc
child_cases P field_case item_case (list ts) (key k) u h = absurd cc

-- a change goes on in a child, or in a new tree under a missing key
child_or_cases :
    (new : Tree) (P : Tree → Part → Tree → Type 0)
    → ((t : Tree) (p : Part) (u : Tree) → child t p ≡ Some u → P t p u)
    → ((fs : Fields) (k : List ℕ) → find k (of_fields fs) ≡ None → P (compound fs) (key k) new)
    → (t : Tree) (p : Part) (u : Tree) → child_or new t p ≡ Some u → P t p u
child_or_cases new P child_case missing_case (compound fs) (key k) u h = go (find k (of_fields fs)) refl h
  where
    go : (o : Option Tree) → find k (of_fields fs) ≡ o → Some (unwrap_or o new) ≡ Some u → P (compound fs) (key k) u
    go None e h = let g : new ≡ u = cc in subst (P (compound fs) (key k)) g (missing_case fs k e)
    go (Some w) e h = let g : find k (of_fields fs) ≡ Some u = cc in child_case (compound fs) (key k) u g
child_or_cases new P child_case missing_case (list ts) (place i) u h = child_case (list ts) (place i) u h
child_or_cases new P child_case missing_case (int z) p u h = absurd cc
child_or_cases new P child_case missing_case (string s) p u h = absurd cc
child_or_cases new P child_case missing_case (compound fs) (place i) u h = absurd cc
child_or_cases new P child_case missing_case (list ts) (key k) u h = absurd cc

pub below_cases :
    (P : Tree → Part → Tree → Type 0)
    → ((t : Tree) (p : Part) (u : Tree) → child t p ≡ Some u → P t p u)
    → ((fs : Fields) (k : List ℕ) → find k (of_fields fs) ≡ None → P (compound fs) (key k) (compound no_fields))
    → (t : Tree) (p : Part) (u : Tree) → below t p ≡ Some u → P t p u
below_cases = child_or_cases (compound no_fields)

pub below_last_cases :
    (P : Tree → Part → Tree → Type 0)
    → ((t : Tree) (p : Part) (u : Tree) → child t p ≡ Some u → P t p u)
    → ((fs : Fields) (k : List ℕ) → find k (of_fields fs) ≡ None → P (compound fs) (key k) (list no_items))
    → (t : Tree) (p : Part) (u : Tree) → below_last t p ≡ Some u → P t p u
below_last_cases = child_or_cases (list no_items)

-- a tree with another child is the compound with that field, or the list with that element
pub exchange_cases :
    (P : Tree → Part → Tree → Tree → Type 0)
    → ((fs : Fields) (k : List ℕ) (v : Tree) → P (compound fs) (key k) v (compound_of (put k v (of_fields fs))))
    → ((ts : Items) (i : ℤ) (v : Tree) (k : ℕ) → index_of (length (of_items ts)) i ≡ Some k → P (list ts) (place i) v (list_of (slice_set (of_items ts) k v)))
    → (t : Tree) (p : Part) (v t' : Tree) → exchange t p v ≡ Some t' → P t p v t'
exchange_cases P field_case item_case (compound fs) (key k) v t' h =
    let g : compound_of (put k v (of_fields fs)) ≡ t' = cc in subst (P (compound fs) (key k) v) g (field_case fs k v)
exchange_cases P field_case item_case (list ts) (place i) v t' h = go (index_of (length (of_items ts)) i) refl h
  where
    go : (o : Option ℕ) → index_of (length (of_items ts)) i ≡ o → option_map (λ k. list_of (slice_set (of_items ts) k v)) o ≡ Some t' → P (list ts) (place i) v t'
    go None e h = absurd cc
    go (Some k) e h = let g : list_of (slice_set (of_items ts) k v) ≡ t' = cc in subst (P (list ts) (place i) v) g (item_case ts i v k e)
exchange_cases P field_case item_case (int z) p v t' h = absurd cc
exchange_cases P field_case item_case (string s) p v t' h = absurd cc
exchange_cases P field_case item_case (compound fs) (place i) v t' h = absurd cc
exchange_cases P field_case item_case (list ts) (key k) v t' h = absurd cc

-- a `set` at the last step exchanges the child
pub put_last_exchanges : (t : Tree) (p : Part) (v t' : Tree) → put_last t p v ≡ Some t' → exchange t p v ≡ Some t'
put_last_exchanges (compound fs) (key k) v t' h = h
put_last_exchanges (list ts) (place i) v t' h = go (is_of_kind (item_at (of_items ts) i) v) h
  where
    go : (b : Bool) → (if b then put_item (of_items ts) i v else None) ≡ Some t' → put_item (of_items ts) i v ≡ Some t'
    go true h = h
    go false h = absurd cc
put_last_exchanges (int z) p v t' h = absurd cc
put_last_exchanges (string s) p v t' h = absurd cc
put_last_exchanges (compound fs) (place i) v t' h = absurd cc
put_last_exchanges (list ts) (key k) v t' h = absurd cc

-- a `remove` at the last step leaves out a field or an element
pub leave_out_cases :
    (P : Tree → Part → Tree → Type 0)
    → ((fs : Fields) (k : List ℕ) (u : Tree) → find k (of_fields fs) ≡ Some u → P (compound fs) (key k) (compound_of (without k (of_fields fs))))
    → ((ts : Items) (i : ℤ) (k : ℕ) → index_of (length (of_items ts)) i ≡ Some k → P (list ts) (place i) (list_of (remove_item (of_items ts) k)))
    → (t : Tree) (p : Part) (t' : Tree) → leave_out t p ≡ Some t' → P t p t'
leave_out_cases P field_case item_case (compound fs) (key k) t' h = go (find k (of_fields fs)) refl h
  where
    go : (o : Option Tree) → find k (of_fields fs) ≡ o → option_map (λ u. compound_of (without k (of_fields fs))) o ≡ Some t' → P (compound fs) (key k) t'
    go None e h = absurd cc
    go (Some u) e h = let g : compound_of (without k (of_fields fs)) ≡ t' = cc in subst (P (compound fs) (key k)) g (field_case fs k u e)
leave_out_cases P field_case item_case (list ts) (place i) t' h = go (index_of (length (of_items ts)) i) refl h
  where
    go : (o : Option ℕ) → index_of (length (of_items ts)) i ≡ o → option_map (λ k. list_of (remove_item (of_items ts) k)) o ≡ Some t' → P (list ts) (place i) t'
    go None e h = absurd cc
    go (Some k) e h = let g : list_of (remove_item (of_items ts) k) ≡ t' = cc in subst (P (list ts) (place i)) g (item_case ts i k e)
leave_out_cases P field_case item_case (int z) p t' h = absurd cc
leave_out_cases P field_case item_case (string s) p t' h = absurd cc
leave_out_cases P field_case item_case (compound fs) (place i) t' h = absurd cc
leave_out_cases P field_case item_case (list ts) (key k) t' h = absurd cc

-- one more element stands at the end of a list; its kind is that of the first element, if there is one
pub add_to_cases :
    (P : Tree → Tree → Tree → Type 0)
    → ((v : Tree) → P v (list no_items) (list_of (v ∷ [])))
    → ((v t : Tree) (ts : Items) → nat_eq (kind t) (kind v) ≡ true → P v (list (item t ts)) (list_of ((t ∷ of_items ts) ++ (v ∷ []))))
    → (v t t' : Tree) → add_to v t ≡ Some t' → P v t t'
add_to_cases P first_case more_case v (list no_items) t' h =
    let g : list_of (v ∷ []) ≡ t' = cc in subst (P v (list no_items)) g (first_case v)
add_to_cases P first_case more_case v (list (item t ts)) t' h = go (nat_eq (kind t) (kind v)) refl h
  where
    go : (b : Bool) → nat_eq (kind t) (kind v) ≡ b → (if b then Some (list_of ((t ∷ of_items ts) ++ (v ∷ []))) else None) ≡ Some t' → P v (list (item t ts)) t'
    go true e h = let g : list_of ((t ∷ of_items ts) ++ (v ∷ [])) ≡ t' = cc in subst (P v (list (item t ts))) g (more_case v t ts e)
    go false e h = absurd cc
add_to_cases P first_case more_case v (int z) t' h = absurd cc
add_to_cases P first_case more_case v (string s) t' h = absurd cc
add_to_cases P first_case more_case v (compound fs) t' h = absurd cc
