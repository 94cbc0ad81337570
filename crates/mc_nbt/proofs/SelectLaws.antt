-- What paths select in the trees that `set`, `append` and `remove` leave.
use Rattle.std.proofs.Common.{◌≡◌, ◌≢◌, ◌<◌, ◌+◌, ◌-◌, ℕ, zero, suc, List, [], ◌∷◌, ◌++◌, length, Option, Some, None, Bool, true, false, refl, sym, ap, ◌∙◌, arith}
use Rattle.std.specs.Prelude.{ℤ, pos, negsuc, if◌then◌else◌, nat_lt, option_and_then, slice_get, slice_set, ⊤}
use Rattle.std.specs.Str.{bytes_eq}
use Rattle.std.specs.Ordering.{nat_cmp, is_lt}
use Rattle.std.specs.Cmp.Lexicographic.{slice_cmp}
use Rattle.std.proofs.lemmas.List.{length-set, length-append}
use Rattle.std.proofs.lemmas.Slice.Eq.{bytes_eq-Decides}
use Rattle.std.proofs.lemmas.Bool.{ltb-true, lt-ltb, and_parts}
use Rattle.mc_nbt.specs.Path.{Differ, Apart}
use Rattle.mc_nbt.specs.Path.Differ.{keys, places, places_from_end, key_and_place, place_and_key}
use Rattle.mc_nbt.specs.Path.Apart.{here, later}
use Rattle.mc_nbt.specs.Shape.{is_shaped, is_rising, fields_shaped}
use Rattle.mc_nbt.specs.Tree.{Tree, list, compound, Items, Fields, no_fields, Part, key, place, of_items, of_fields, list_of, compound_of, find, replace, insert, put, put_found, index_of, item_at, child, select, below, below_last, exchange, set_at, append_at, remove_at, remove, without, leave_out, add_to}
use Rattle.mc_nbt.proofs.TreeLemmas.{bytes_refl, of_items-items, of_fields-fields}
use Rattle.mc_nbt.proofs.StepLemmas.{index_within, Passes, through_passes, below_cases, exchange_cases, put_last_exchanges, leave_out_cases, add_to_cases}
use Rattle.mc_nbt.proofs.OrderLemmas.{find_without}
use Rattle.mc_nbt.proofs.ShapeLaws.{child_shaped}

-- the value under a key that was put there
find_replace : (k : List ℕ) (u v : Tree) (es : List (List ℕ × Tree)) → find k es ≡ Some u → find k (replace k v es) ≡ Some v
find_replace k u v [] f = absurd cc
find_replace k u v (e ∷ es) f = go (bytes_eq k e.0) refl f (find_replace k u v es)
  where
    go : (b : Bool) → bytes_eq k e.0 ≡ b → (if b then Some e.1 else find k es) ≡ Some u → (find k es ≡ Some u → find k (replace k v es) ≡ Some v) → find k (if b then (e.0, v) ∷ es else e ∷ replace k v es) ≡ Some v
    go true q f ih = ap (λ b. if b then Some v else find k es) q
    go false q f ih = ap (λ b. if b then Some e.1 else find k (replace k v es)) q ∙ ih f

find_first : (k : List ℕ) (v : Tree) (es : List (List ℕ × Tree)) → find k ((k, v) ∷ es) ≡ Some v
find_first k v es = ap (λ b. if b then Some v else find k es) (bytes_refl k)

find_insert : (k : List ℕ) (v : Tree) (es : List (List ℕ × Tree)) → find k es ≡ None → find k (insert k v es) ≡ Some v
find_insert k v [] f = find_first k v []
find_insert k v (e ∷ es) f = go (is_lt (slice_cmp nat_cmp k e.0)) (later_one (bytes_eq k e.0) f (find_insert k v es))
  where
    later_one : (b : Bool) → (if b then Some e.1 else find k es) ≡ None → (find k es ≡ None → find k (insert k v es) ≡ Some v) → (if b then Some e.1 else find k (insert k v es)) ≡ Some v
    later_one true f ih = absurd cc
    later_one false f ih = ih f

    go : (b : Bool) → find k (e ∷ insert k v es) ≡ Some v → find k (if b then (k, v) ∷ e ∷ es else e ∷ insert k v es) ≡ Some v
    go true ih = find_first k v (e ∷ es)
    go false ih = ih

find_put : (k : List ℕ) (v : Tree) (es : List (List ℕ × Tree)) → find k (put k v es) ≡ Some v
find_put k v es = go (find k es) refl
  where
    go : (o : Option Tree) → find k es ≡ o → find k (put_found o k v es) ≡ Some v
    go None f = find_insert k v es f
    go (Some u) f = find_replace k u v es f

-- under another key what was there
pub bytes_differ : (k l : List ℕ) → k ≢ l → bytes_eq l k ≡ false
bytes_differ k l ne = go (bytes_eq l k) refl
  where
    go : (b : Bool) → bytes_eq l k ≡ b → b ≡ false
    go true q = absurd (ne (sym ((bytes_eq-Decides l k).0 q)))
    go false q = refl

find_behind : (k l : List ℕ) (v : Tree) (es : List (List ℕ × Tree)) → k ≢ l → find l ((k, v) ∷ es) ≡ find l es
find_behind k l v es ne = ap (λ b. if b then Some v else find l es) (bytes_differ k l ne)

find_replace_other : (k l : List ℕ) (v : Tree) (es : List (List ℕ × Tree)) → k ≢ l → find l (replace k v es) ≡ find l es
find_replace_other k l v [] ne = refl
find_replace_other k l v (e ∷ es) ne = go (bytes_eq k e.0) refl (find_replace_other k l v es ne)
  where
    go : (b : Bool) → bytes_eq k e.0 ≡ b → find l (replace k v es) ≡ find l es → find l (if b then (e.0, v) ∷ es else e ∷ replace k v es) ≡ (if bytes_eq l e.0 then Some e.1 else find l es)
    go true q ih =
        let other : bytes_eq l e.0 ≡ false = ap (bytes_eq l) (sym ((bytes_eq-Decides k e.0).0 q)) ∙ bytes_differ k l ne in
        ap (λ b. if b then Some v else find l es) other ∙ sym (ap (λ b. if b then Some e.1 else find l es) other)
    go false q ih = ap (λ o. if bytes_eq l e.0 then Some e.1 else o) ih

find_insert_other : (k l : List ℕ) (v : Tree) (es : List (List ℕ × Tree)) → k ≢ l → find l (insert k v es) ≡ find l es
find_insert_other k l v [] ne = find_behind k l v [] ne
find_insert_other k l v (e ∷ es) ne = go (is_lt (slice_cmp nat_cmp k e.0)) (find_insert_other k l v es ne)
  where
    go : (b : Bool) → find l (insert k v es) ≡ find l es → find l (if b then (k, v) ∷ e ∷ es else e ∷ insert k v es) ≡ (if bytes_eq l e.0 then Some e.1 else find l es)
    go true ih = find_behind k l v (e ∷ es) ne
    go false ih = ap (λ o. if bytes_eq l e.0 then Some e.1 else o) ih

find_put_other : (k l : List ℕ) (v : Tree) (es : List (List ℕ × Tree)) → k ≢ l → find l (put k v es) ≡ find l es
find_put_other k l v es ne = go (find k es)
  where
    go : (o : Option Tree) → find l (put_found o k v es) ≡ find l es
    go None = find_insert_other k l v es ne
    go (Some u) = find_replace_other k l v es ne

-- elements
get_set : (ts : List Tree) (i : ℕ) (v : Tree) → i < length ts → slice_get (slice_set ts i v) i ≡ Some v
get_set [] i v h = absurd (omega arith)
get_set (t ∷ ts) zero v h = refl
get_set (t ∷ ts) (suc i) v h = get_set ts i v (omega arith)

get_set_other : (ts : List Tree) (i j : ℕ) (v : Tree) → i ≢ j → slice_get (slice_set ts i v) j ≡ slice_get ts j
get_set_other [] i j v ne = refl
get_set_other (t ∷ ts) zero zero v ne = absurd (ne refl)
get_set_other (t ∷ ts) zero (suc j) v ne = refl
get_set_other (t ∷ ts) (suc i) zero v ne = refl
get_set_other (t ∷ ts) (suc i) (suc j) v ne = get_set_other ts i j v (λ e. ne (ap suc e))

get_added : (ts : List Tree) (v : Tree) → slice_get (ts ++ v ∷ []) (length ts) ≡ Some v
get_added [] v = refl
get_added (t ∷ ts) v = get_added ts v

item_set : (ts : List Tree) (i : ℤ) (k : ℕ) (v : Tree) → index_of (length ts) i ≡ Some k → item_at (slice_set ts k v) i ≡ Some v
item_set ts i k v h =
    ap (λ n. option_and_then (slice_get (slice_set ts k v)) (index_of n i)) (length-set ts k v)
    ∙ ap (option_and_then (slice_get (slice_set ts k v))) h
    ∙ get_set ts k v (index_within (length ts) i k h)

item_set_other : (ts : List Tree) (j : ℤ) (k : ℕ) (v : Tree) → ((m : ℕ) → index_of (length ts) j ≡ Some m → k ≢ m) → item_at (slice_set ts k v) j ≡ item_at ts j
item_set_other ts j k v ne =
    ap (λ n. option_and_then (slice_get (slice_set ts k v)) (index_of n j)) (length-set ts k v) ∙ go (index_of (length ts) j) refl
  where
    go : (o : Option ℕ) → index_of (length ts) j ≡ o → option_and_then (slice_get (slice_set ts k v)) o ≡ option_and_then (slice_get ts) o
    go None e = refl
    go (Some m) e = get_set_other ts k m v (ne m e)

pub index_from_front : (n i k : ℕ) → index_of n (pos i) ≡ Some k → k ≡ i
index_from_front n i k h = go (nat_lt i n) h
  where
    go : (b : Bool) → (if b then Some i else None) ≡ Some k → k ≡ i
    go true h = cc
    go false h = absurd cc

pub index_from_end : (n i k : ℕ) → index_of n (negsuc i) ≡ Some k → suc (k + i) ≡ n
index_from_end n i k h = go (nat_lt i n) refl h
  where
    go : (b : Bool) → nat_lt i n ≡ b → (if b then Some (n - suc i) else None) ≡ Some k → suc (k + i) ≡ n
    go true e h = let g : n - suc i ≡ k = cc in let lt = ltb-true i n e in omega arith
    go false e h = absurd cc

-- one step of a path
pub exchange_child : (t : Tree) (p : Part) (v t' : Tree) → exchange t p v ≡ Some t' → child t' p ≡ Some v
exchange_child = exchange_cases (λ t p v t'. child t' p ≡ Some v)
    (λ fs k v. ap (find k) (of_fields-fields (put k v (of_fields fs))) ∙ find_put k v (of_fields fs))
    (λ ts i v k h. ap (λ l. item_at l i) (of_items-items (slice_set (of_items ts) k v)) ∙ item_set (of_items ts) i k v h)

field_apart : (fs : Fields) (k : List ℕ) (v : Tree) (p q : Part) → Differ p q → p ≡ key k → child (compound_of (put k v (of_fields fs))) q ≡ child (compound fs) q
field_apart fs k v p q (keys a b ne) e =
    let g : a ≡ k = cc in
    ap (find b) (of_fields-fields (put k v (of_fields fs))) ∙ find_put_other k b v (of_fields fs) (λ same. ne (g ∙ same))
field_apart fs k v p q (places i j ne) e = absurd cc
field_apart fs k v p q (places_from_end i j ne) e = absurd cc
field_apart fs k v p q (key_and_place a i) e = refl
field_apart fs k v p q (place_and_key i a) e = absurd cc

item_apart : (ts : Items) (i : ℤ) (v : Tree) (k : ℕ) (p q : Part) → index_of (length (of_items ts)) i ≡ Some k → Differ p q → p ≡ place i → child (list_of (slice_set (of_items ts) k v)) q ≡ child (list ts) q
item_apart ts i v k p q h (keys a b ne) e = absurd cc
item_apart ts i v k p q h (places a b ne) e =
    let g : i ≡ pos a = cc in
    let n = length (of_items ts) in
    let first = index_from_front n a k (sym (ap (index_of n) g) ∙ h) in
    ap (λ l. item_at l (pos b)) (of_items-items (slice_set (of_items ts) k v))
    ∙ item_set_other (of_items ts) (pos b) k v (λ m f same. ne (sym first ∙ same ∙ index_from_front n b m f))
item_apart ts i v k p q h (places_from_end a b ne) e =
    let g : i ≡ negsuc a = cc in
    let n = length (of_items ts) in
    let first = index_from_end n a k (sym (ap (index_of n) g) ∙ h) in
    ap (λ l. item_at l (negsuc b)) (of_items-items (slice_set (of_items ts) k v))
    ∙ item_set_other (of_items ts) (negsuc b) k v (λ m f same. let second = index_from_end n b m f in ne (omega arith))
item_apart ts i v k p q h (key_and_place a j) e = absurd cc
item_apart ts i v k p q h (place_and_key j a) e = refl

pub exchange_apart : (t : Tree) (p : Part) (v t' : Tree) → exchange t p v ≡ Some t' → (q : Part) → Differ p q → child t' q ≡ child t q
exchange_apart = exchange_cases (λ t p v t'. (q : Part) → Differ p q → child t' q ≡ child t q)
    (λ fs k v q d. field_apart fs k v (key k) q d refl)
    (λ ts i v k h q d. item_apart ts i v k (place i) q h d refl)

-- nothing is selected in an empty compound
select_nothing : (q : Part) (qs : List Part) → select (compound no_fields) (q ∷ qs) ≡ None
select_nothing (key k) qs = refl
select_nothing (place i) qs = refl

-- what a `set` goes on in has what the tree has there
pub select_below : (t : Tree) (p : Part) (u : Tree) → below t p ≡ Some u → (q : Part) (qs : List Part) → select t (p ∷ q ∷ qs) ≡ select u (q ∷ qs)
select_below = below_cases (λ t p u. (q : Part) (qs : List Part) → select t (p ∷ q ∷ qs) ≡ select u (q ∷ qs))
    (λ t p u h q qs. ap (option_and_then (λ w. select w (q ∷ qs))) h)
    (λ fs k h q qs. ap (option_and_then (λ w. select w (q ∷ qs))) h ∙ sym (select_nothing q qs))

pub select_child : (t : Tree) (p : Part) (ps : List Part) (u : Tree) → child t p ≡ Some u → select t (p ∷ ps) ≡ select u ps
select_child t p ps u h = ap (option_and_then (λ w. select w ps)) h

-- a value that was set is selected
pub select_after_set : (p : Part) (ps : List Part) (v t t' : Tree) → set_at p ps v t ≡ Some t' → select t' (p ∷ ps) ≡ Some v
select_after_set p [] v t t' h = select_child t' p [] v (exchange_child t p v t' (put_last_exchanges t p v t' h))
select_after_set p (q ∷ ps) v t t' h =
    let s : Passes t p (set_at q ps v) (below t p) t' = through_passes t p (set_at q ps v) (below t p) t' h in
    select_child t' p (q ∷ ps) s.after (exchange_child t p s.after t' s.exchanged) ∙ select_after_set q ps v s.before s.after s.changed

-- a value that was appended is selected as the last element
pub last_index : (n k : ℕ) → n ≡ suc k → index_of n (negsuc 0) ≡ Some k
last_index n k e = ap (λ b. if b then Some (n - 1) else None) (lt-ltb 0 n (omega arith)) ∙ ap Some (omega arith)

last_item : (ts : List Tree) (v : Tree) → item_at (ts ++ v ∷ []) (negsuc 0) ≡ Some v
last_item [] v = refl
last_item (t ∷ ts) v = ap (option_and_then (slice_get ((t ∷ ts) ++ v ∷ []))) (last_index (length ((t ∷ ts) ++ v ∷ [])) (length (t ∷ ts)) (omega (arith, length-append ts (v ∷ [])))) ∙ get_added (t ∷ ts) v

add_to_last : (v t t' : Tree) → add_to v t ≡ Some t' → child t' (place (negsuc 0)) ≡ Some v
add_to_last = add_to_cases (λ v t t'. child t' (place (negsuc 0)) ≡ Some v)
    (λ v. refl)
    (λ v t ts e. ap (λ l. item_at l (negsuc 0)) (of_items-items ((t ∷ of_items ts) ++ v ∷ [])) ∙ last_item (t ∷ of_items ts) v)

pub select_after_append : (p : Part) (ps : List Part) (v t t' : Tree) → append_at p ps v t ≡ Some t' → select t' ((p ∷ ps) ++ place (negsuc 0) ∷ []) ≡ Some v
select_after_append p [] v t t' h =
    let s : Passes t p (add_to v) (below_last t p) t' = through_passes t p (add_to v) (below_last t p) t' h in
    select_child t' p (place (negsuc 0) ∷ []) s.after (exchange_child t p s.after t' s.exchanged)
    ∙ select_child s.after (place (negsuc 0)) [] v (add_to_last v s.before s.after s.changed)
select_after_append p (q ∷ ps) v t t' h =
    let s : Passes t p (append_at q ps v) (below t p) t' = through_passes t p (append_at q ps v) (below t p) t' h in
    select_child t' p ((q ∷ ps) ++ place (negsuc 0) ∷ []) s.after (exchange_child t p s.after t' s.exchanged) ∙ select_after_append q ps v s.before s.after s.changed

-- an edit that goes down a path, and exchanges a child at each step
record Exchanges (t : Tree) (p : Part) (t' : Tree) : Type 0 where
  by : Tree
  exchanged : exchange t p by ≡ Some t'

record GoesDown (f : Part → List Part → Tree → Option Tree) : Type 0 where
  exchanges : (p : Part) (ps : List Part) (t t' : Tree) → f p ps t ≡ Some t' → Exchanges t p t'
  goes_on : (p q : Part) (ps : List Part) (t t' : Tree) → f p (q ∷ ps) t ≡ Some t' → Passes t p (f q ps) (below t p) t'

abbrev LeavesAlone : (Part → List Part → Tree → Option Tree) → List Part → List Part → Type 0
LeavesAlone f [] qs = ⊤
LeavesAlone f (p ∷ ps) qs = (t t' : Tree) → f p ps t ≡ Some t' → select t' qs ≡ select t qs

-- it leaves alone what is apart from the path
alone_later : (f : Part → List Part → Tree → Option Tree) → GoesDown f → (p : Part) (ps qs : List Part) → Apart ps qs → LeavesAlone f ps qs → LeavesAlone f (p ∷ ps) (p ∷ qs)
alone_later f g p [] qs a ih = elim a [ ]
alone_later f g p (q ∷ ps) [] a ih = elim a [ ]
alone_later f g p (q ∷ ps) (r ∷ qs) a ih = λ t t' h.
    let s : Passes t p (f q ps) (below t p) t' = g.goes_on p q ps t t' h in
    select_child t' p (r ∷ qs) s.after (exchange_child t p s.after t' s.exchanged)
    ∙ ih s.before s.after s.changed
    ∙ sym (select_below t p s.before s.found r qs)

leaves_alone : (f : Part → List Part → Tree → Option Tree) → GoesDown f → (as' bs : List Part) → Apart as' bs → LeavesAlone f as' bs
leaves_alone f g as' bs (here p q ps qs d) = λ t t' h.
    let x : Exchanges t p t' = g.exchanges p ps t t' h in
    ap (option_and_then (λ w. select w qs)) (exchange_apart t p x.by t' x.exchanged q d)
leaves_alone f g as' bs (later p ps qs a) = alone_later f g p ps qs a (leaves_alone f g ps qs a)

set_goes_down : (v : Tree) → GoesDown (λ p ps. set_at p ps v)
set_goes_down v = record { exchanges = exchanges; goes_on = λ p q ps t t' h. through_passes t p (set_at q ps v) (below t p) t' h }
  where
    exchanges : (p : Part) (ps : List Part) (t t' : Tree) → set_at p ps v t ≡ Some t' → Exchanges t p t'
    exchanges p [] t t' h = record { by = v; exchanged = put_last_exchanges t p v t' h }
    exchanges p (q ∷ ps) t t' h =
        let s : Passes t p (set_at q ps v) (below t p) t' = through_passes t p (set_at q ps v) (below t p) t' h in
        record { by = s.after; exchanged = s.exchanged }

append_goes_down : (v : Tree) → GoesDown (λ p ps. append_at p ps v)
append_goes_down v = record { exchanges = exchanges; goes_on = λ p q ps t t' h. through_passes t p (append_at q ps v) (below t p) t' h }
  where
    exchanges : (p : Part) (ps : List Part) (t t' : Tree) → append_at p ps v t ≡ Some t' → Exchanges t p t'
    exchanges p [] t t' h =
        let s : Passes t p (add_to v) (below_last t p) t' = through_passes t p (add_to v) (below_last t p) t' h in
        record { by = s.after; exchanged = s.exchanged }
    exchanges p (q ∷ ps) t t' h =
        let s : Passes t p (append_at q ps v) (below t p) t' = through_passes t p (append_at q ps v) (below t p) t' h in
        record { by = s.after; exchanged = s.exchanged }

-- what is apart from the path of a `set` or an `append` is selected as before
pub select_apart : (p : Part) (ps : List Part) (q : Part) (qs : List Part) (v t t' : Tree) → Apart (p ∷ ps) (q ∷ qs) → set_at p ps v t ≡ Some t' → select t' (q ∷ qs) ≡ select t (q ∷ qs)
select_apart p ps q qs v t t' a h = leaves_alone (λ p ps. set_at p ps v) (set_goes_down v) (p ∷ ps) (q ∷ qs) a t t' h

pub append_apart : (p : Part) (ps : List Part) (q : Part) (qs : List Part) (v t t' : Tree) → Apart (p ∷ ps) (q ∷ qs) → append_at p ps v t ≡ Some t' → select t' (q ∷ qs) ≡ select t (q ∷ qs)
append_apart p ps q qs v t t' a h = leaves_alone (λ p ps. append_at p ps v) (append_goes_down v) (p ∷ ps) (q ∷ qs) a t t' h

-- a key that was removed is gone
leave_out_key : (t : Tree) (k : List ℕ) (t' : Tree) → is_shaped t ≡ true → leave_out t (key k) ≡ Some t' → child t' (key k) ≡ None
leave_out_key t k t' s h = leave_out_cases (λ t p t'. is_shaped t ≡ true → p ≡ key k → child t' p ≡ None)
    (λ fs l u f s e. ap (find l) (of_fields-fields (without l (of_fields fs))) ∙ find_without l (of_fields fs) (and_parts (fields_shaped fs) (is_rising (of_fields fs)) s).1)
    (λ ts i n f s e. absurd cc)
    t (key k) t' h s refl

removed_below : (r q : Part) (qs : List Part) (t t' : Tree) → is_shaped t ≡ true → remove t (r ∷ q ∷ qs) ≡ Some t' → ((u w : Tree) → is_shaped u ≡ true → remove u (q ∷ qs) ≡ Some w → select w (q ∷ qs) ≡ None) → select t' (r ∷ q ∷ qs) ≡ None
removed_below r q qs t t' s h ih =
    let steps : Passes t r (remove_at q qs) (child t r) t' = through_passes t r (remove_at q qs) (child t r) t' h in
    select_child t' r (q ∷ qs) steps.after (exchange_child t r steps.after t' steps.exchanged)
    ∙ ih steps.before steps.after (child_shaped t r steps.before steps.found s) steps.changed

pub select_after_remove_key : (ps : List Part) (k : List ℕ) (t t' : Tree) → is_shaped t ≡ true → remove t (ps ++ key k ∷ []) ≡ Some t' → select t' (ps ++ key k ∷ []) ≡ None
select_after_remove_key [] k t t' s h = ap (option_and_then (λ w. select w [])) (leave_out_key t k t' s h)
select_after_remove_key (r ∷ []) k t t' s h = removed_below r (key k) [] t t' s h (λ u w s h. select_after_remove_key [] k u w s h)
select_after_remove_key (r ∷ q ∷ qs) k t t' s h = removed_below r q (qs ++ key k ∷ []) t t' s h (λ u w s h. select_after_remove_key (q ∷ qs) k u w s h)
