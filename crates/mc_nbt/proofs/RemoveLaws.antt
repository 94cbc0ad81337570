-- What a `remove` leaves at the places and keys round what was removed, and what an `append` leaves at the places that
-- stood before it.
use Rattle.std.proofs.Common.{◌≡◌, ◌≢◌, ◌<◌, ◌≤◌, ◌+◌, ◌-◌, ℕ, zero, suc, List, [], ◌∷◌, ◌++◌, length, Option, Some, None, Bool, true, false, refl, sym, ap, ◌∙◌, arith}
use Rattle.std.specs.Prelude.{ℤ, pos, negsuc, if◌then◌else◌, nat_eq, nat_lt, option_map, option_and_then, slice_get}
use Rattle.std.specs.List.{remove as remove_item}
use Rattle.std.specs.Str.{bytes_eq}
use Rattle.std.proofs.lemmas.List.{length-append}
use Rattle.std.proofs.lemmas.List.Edits.{length-remove}
use Rattle.std.proofs.lemmas.Slice.Eq.{bytes_eq-Decides}
use Rattle.std.proofs.lemmas.Bool.{ltb-true, lt-ltb}
use Rattle.std.proofs.lemmas.Bool.Decides.{nat_tests}
use Rattle.mc_nbt.specs.Path.{OutlivesAt, Outlives}
use Rattle.mc_nbt.specs.Path.OutlivesAt.{other_key, near_place, near_place_from_end, place_not_key, key_not_place}
use Rattle.mc_nbt.specs.Path.Outlives.{above, at_last, deeper}
use Rattle.mc_nbt.specs.Tree.{Tree, int, string, list, compound, Items, no_items, Fields, Part, key, place, of_items, of_fields, list_of, compound_of, find, index_of, item_at, child, select, below, below_last, append_at, remove_at, remove, without, without_at, leave_out, put_back, add_item, add_to, kind}
use Rattle.mc_nbt.proofs.TreeLemmas.{below_last_child, select_last, items-of_items, of_items-items, of_fields-fields}
use Rattle.mc_nbt.proofs.StepLemmas.{index_within, Passes, through_passes, below_last_cases, leave_out_cases}
use Rattle.mc_nbt.proofs.SelectLaws.{bytes_differ, index_from_front, index_from_end, select_below, select_child, last_index, exchange_child, exchange_apart}
use Rattle.mc_nbt.proofs.BelowLaws.{select-append, select_further, put_back_selected, remove_below}

-- keys
pub find_without_other : (k l : List ℕ) (es : List (List ℕ × Tree)) → k ≢ l → find l (without k es) ≡ find l es
find_without_other k l [] ne = refl
find_without_other k l (e ∷ es) ne = go (bytes_eq k e.0) refl (find_without_other k l es ne)
  where
    go : (b : Bool) → bytes_eq k e.0 ≡ b → find l (without k es) ≡ find l es → find l (if b then es else e ∷ without k es) ≡ (if bytes_eq l e.0 then Some e.1 else find l es)
    go true q ih =
        let other : bytes_eq l e.0 ≡ false = ap (bytes_eq l) (sym ((bytes_eq-Decides k e.0).0 q)) ∙ bytes_differ k l ne in
        sym (ap (λ b. if b then Some e.1 else find l es) other)
    go false q ih = ap (λ o. if bytes_eq l e.0 then Some e.1 else o) ih

-- elements before a removed one stay, and those behind it move up
get_before : (ts : List Tree) (k j : ℕ) → j < k → slice_get (remove_item ts k) j ≡ slice_get ts j
get_before [] zero j h = refl
get_before [] (suc k) j h = refl
get_before (t ∷ ts) zero j h = absurd (omega arith)
get_before (t ∷ ts) (suc k) zero h = refl
get_before (t ∷ ts) (suc k) (suc j) h = get_before ts k j (omega arith)

get_behind : (ts : List Tree) (k j : ℕ) → k ≤ j → slice_get (remove_item ts k) j ≡ slice_get ts (suc j)
get_behind [] zero j h = refl
get_behind [] (suc k) j h = refl
get_behind (t ∷ ts) zero j h = refl
get_behind (t ∷ ts) (suc k) zero h = absurd (omega arith)
get_behind (t ∷ ts) (suc k) (suc j) h = get_behind ts k j (omega arith)

remove_added : (ts : List Tree) (v : Tree) → remove_item (ts ++ v ∷ []) (length ts) ≡ ts
remove_added [] v = refl
remove_added (t ∷ ts) v = ap (λ l. t ∷ l) (remove_added ts v)

front : (ts : List Tree) (j : ℕ) → j < length ts → item_at ts (pos j) ≡ slice_get ts j
front ts j h = ap (λ b. option_and_then (slice_get ts) (if b then Some j else None)) (lt-ltb j (length ts) h)

back : (ts : List Tree) (j : ℕ) → j < length ts → item_at ts (negsuc j) ≡ slice_get ts (length ts - suc j)
back ts j h = ap (λ b. option_and_then (slice_get ts) (if b then Some (length ts - suc j) else None)) (lt-ltb j (length ts) h)

item_before : (ts : List Tree) (k j : ℕ) → k < length ts → j < k → item_at (remove_item ts k) (pos j) ≡ item_at ts (pos j)
item_before ts k j w h =
    let n = length-remove ts k w in
    front (remove_item ts k) j (omega arith) ∙ get_before ts k j h ∙ sym (front ts j (omega arith))

item_behind : (ts : List Tree) (k j : ℕ) → k < length ts → k ≤ j → item_at (remove_item ts k) (pos j) ≡ item_at ts (pos (suc j))
item_behind ts k j w h =
    let n = length-remove ts k w in
    let same : nat_lt j (length (remove_item ts k)) ≡ nat_lt (suc j) (length ts) = grind (arith, nat_tests) in
    ap (λ b. option_and_then (slice_get (remove_item ts k)) (if b then Some j else None)) same ∙ go (nat_lt (suc j) (length ts))
  where
    go : (b : Bool) → option_and_then (slice_get (remove_item ts k)) (if b then Some j else None) ≡ option_and_then (slice_get ts) (if b then Some (suc j) else None)
    go true = get_behind ts k j h
    go false = refl

item_near_end : (ts : List Tree) (k a b : ℕ) → suc (k + a) ≡ length ts → b < a → item_at (remove_item ts k) (negsuc b) ≡ item_at ts (negsuc b)
item_near_end ts k a b w h =
    let n = length-remove ts k (omega arith) in
    let next : suc (length (remove_item ts k) - suc b) ≡ length ts - suc b = omega arith in
    back (remove_item ts k) b (omega arith)
    ∙ get_behind ts k (length (remove_item ts k) - suc b) (omega arith)
    ∙ ap (slice_get ts) next
    ∙ sym (back ts b (omega arith))

-- one step
field_outlives : (fs : Fields) (k : List ℕ) (p q : Part) → OutlivesAt p q → p ≡ key k → child (compound_of (without k (of_fields fs))) q ≡ child (compound fs) q
field_outlives fs k p q (other_key a b ne) e =
    let g : a ≡ k = cc in
    ap (find b) (of_fields-fields (without k (of_fields fs))) ∙ find_without_other k b (of_fields fs) (λ same. ne (g ∙ same))
field_outlives fs k p q (near_place i j lt) e = absurd cc
field_outlives fs k p q (near_place_from_end i j lt) e = absurd cc
field_outlives fs k p q (place_not_key a i) e = refl
field_outlives fs k p q (key_not_place i a) e = absurd cc

item_outlives : (ts : Items) (i : ℤ) (k : ℕ) (p q : Part) → index_of (length (of_items ts)) i ≡ Some k → OutlivesAt p q → p ≡ place i → child (list_of (remove_item (of_items ts) k)) q ≡ child (list ts) q
item_outlives ts i k p q h (other_key a b ne) e = absurd cc
item_outlives ts i k p q h (near_place a b lt) e =
    let g : i ≡ pos a = cc in
    let n = length (of_items ts) in
    let first = index_from_front n a k (sym (ap (index_of n) g) ∙ h) in
    let w = index_within n i k h in
    ap (λ l. item_at l (pos b)) (of_items-items (remove_item (of_items ts) k)) ∙ item_before (of_items ts) k b w (omega arith)
item_outlives ts i k p q h (near_place_from_end a b lt) e =
    let g : i ≡ negsuc a = cc in
    let n = length (of_items ts) in
    let first = index_from_end n a k (sym (ap (index_of n) g) ∙ h) in
    ap (λ l. item_at l (negsuc b)) (of_items-items (remove_item (of_items ts) k)) ∙ item_near_end (of_items ts) k a b first lt
item_outlives ts i k p q h (place_not_key a j) e = absurd cc
item_outlives ts i k p q h (key_not_place j a) e = refl

step_outlives : (t : Tree) (p : Part) (t' : Tree) → leave_out t p ≡ Some t' → (q : Part) → OutlivesAt p q → child t' q ≡ child t q
step_outlives = leave_out_cases (λ t p t'. (q : Part) → OutlivesAt p q → child t' q ≡ child t q)
    (λ fs k u h q d. field_outlives fs k (key k) q d refl)
    (λ ts i k h q d. item_outlives ts i k (place i) q h d refl)

-- a path that outlives the removal selects what it did
outlives_deeper : (p : Part) (ps qs : List Part) → Outlives ps qs → ((u w : Tree) → remove u ps ≡ Some w → select w qs ≡ select u qs) → (t t' : Tree) → remove t (p ∷ ps) ≡ Some t' → select t' (p ∷ qs) ≡ select t (p ∷ qs)
outlives_deeper p [] qs d ih t t' h = elim d [ ]
outlives_deeper p (r ∷ rs) qs d ih t t' h =
    let s : Passes t p (remove_at r rs) (child t p) t' = through_passes t p (remove_at r rs) (child t p) t' h in
    select_child t' p qs s.after (exchange_child t p s.after t' s.exchanged)
    ∙ ih s.before s.after s.changed
    ∙ sym (select_child t p qs s.before s.found)

outlives : (as' bs : List Part) → Outlives as' bs → (t t' : Tree) → remove t as' ≡ Some t' → select t' bs ≡ select t bs
outlives as' bs (above p r q ps qs d) = λ t t' h.
    let s : Passes t p (remove_at r ps) (child t p) t' = through_passes t p (remove_at r ps) (child t p) t' h in
    ap (option_and_then (λ w. select w qs)) (exchange_apart t p s.after t' s.exchanged q d)
outlives as' bs (at_last p q qs d) = λ t t' h. ap (option_and_then (λ w. select w qs)) (step_outlives t p t' h q d)
outlives as' bs (deeper p ps qs d) = outlives_deeper p ps qs d (outlives ps qs d)

pub remove_outlives : (ps qs : List Part) (t t' : Tree) → Outlives ps qs → remove t ps ≡ Some t' → select t' qs ≡ select t qs
remove_outlives ps qs t t' d h = outlives ps qs d t t' h

-- the list that the removal of an element leaves
element_left_out : (ts : List Tree) (i : ℤ) (m : ℕ) → index_of (length ts) i ≡ Some m → leave_out (list_of ts) (place i) ≡ Some (list_of (remove_item ts m))
element_left_out ts i m h = ap (λ l. without_at l i) (of_items-items ts) ∙ ap (option_map (λ k. list_of (remove_item ts k))) h

pub element_removed : (ps : List Part) (i : ℤ) (m : ℕ) (ts : List Tree) (t t' : Tree) → select t ps ≡ Some (list_of ts) → index_of (length ts) i ≡ Some m → remove t (ps ++ place i ∷ []) ≡ Some t' → select t' ps ≡ Some (list_of (remove_item ts m))
element_removed [] i m ts t t' s h r =
    let same : t ≡ list_of ts = cc in
    sym r ∙ ap (λ w. leave_out w (place i)) same ∙ element_left_out ts i m h
element_removed (p ∷ ps) i m ts t t' s h r =
    put_back_selected (p ∷ ps) t (list_of (remove_item ts m)) t'
    (sym (ap (option_and_then (put_back t (p ∷ ps))) (element_left_out ts i m h)) ∙ sym (remove_below p ps (place i) [] t (list_of ts) s) ∙ r)

pub last_removed : (ps : List Part) (ts : List Tree) (v t t' : Tree) → select t ps ≡ Some (list_of (ts ++ v ∷ [])) → remove t (ps ++ place (negsuc 0) ∷ []) ≡ Some t' → select t' ps ≡ Some (list_of ts)
last_removed ps ts v t t' s r =
    let n = length-append ts (v ∷ []) in
    element_removed ps (negsuc 0) (length ts) (ts ++ v ∷ []) t t' s (last_index (length (ts ++ v ∷ [])) (length ts) (omega arith)) r
    ∙ ap (λ l. Some (list_of l)) (remove_added ts v)

select_item : (t : Tree) (ps : List Part) (ts : List Tree) (i : ℤ) (qs : List Part) → select t ps ≡ Some (list_of ts) → select t (ps ++ place i ∷ qs) ≡ option_and_then (λ w. select w qs) (item_at ts i)
select_item t ps ts i qs s =
    select_further t (list_of ts) ps (place i ∷ qs) s ∙ ap (λ l. option_and_then (λ w. select w qs) (item_at l i)) (of_items-items ts)

pub place_before_removed : (ps : List Part) (i : ℤ) (m : ℕ) (ts : List Tree) (j : ℕ) (qs : List Part) (t t' : Tree) → select t ps ≡ Some (list_of ts) → index_of (length ts) i ≡ Some m → remove t (ps ++ place i ∷ []) ≡ Some t' → j < m → select t' (ps ++ place (pos j) ∷ qs) ≡ select t (ps ++ place (pos j) ∷ qs)
place_before_removed ps i m ts j qs t t' s h r lt =
    select_item t' ps (remove_item ts m) (pos j) qs (element_removed ps i m ts t t' s h r)
    ∙ ap (option_and_then (λ w. select w qs)) (item_before ts m j (index_within (length ts) i m h) lt)
    ∙ sym (select_item t ps ts (pos j) qs s)

pub place_behind_removed : (ps : List Part) (i : ℤ) (m : ℕ) (ts : List Tree) (j : ℕ) (qs : List Part) (t t' : Tree) → select t ps ≡ Some (list_of ts) → index_of (length ts) i ≡ Some m → remove t (ps ++ place i ∷ []) ≡ Some t' → m ≤ j → select t' (ps ++ place (pos j) ∷ qs) ≡ select t (ps ++ place (pos (suc j)) ∷ qs)
place_behind_removed ps i m ts j qs t t' s h r le =
    select_item t' ps (remove_item ts m) (pos j) qs (element_removed ps i m ts t t' s h r)
    ∙ ap (option_and_then (λ w. select w qs)) (item_behind ts m j (index_within (length ts) i m h) le)
    ∙ sym (select_item t ps ts (pos (suc j)) qs s)

-- what is appended to
added_to : (ts : List Tree) (v w : Tree) → add_item ts v ≡ Some w → w ≡ list_of (ts ++ v ∷ [])
added_to [] v w h = cc
added_to (t ∷ ts) v w h = go (nat_eq (kind t) (kind v)) h
  where
    go : (b : Bool) → (if b then Some (list_of ((t ∷ ts) ++ v ∷ [])) else None) ≡ Some w → w ≡ list_of ((t ∷ ts) ++ v ∷ [])
    go true h = cc
    go false h = absurd cc

pub appended_to_list : (p : Part) (ps : List Part) (v : Tree) (ts : List Tree) (t t' : Tree) → append_at p ps v t ≡ Some t' → select t (p ∷ ps) ≡ Some (list_of ts) → select t' (p ∷ ps) ≡ Some (list_of (ts ++ v ∷ []))
appended_to_list p [] v ts t t' h s =
    let x : Passes t p (add_to v) (below_last t p) t' = through_passes t p (add_to v) (below_last t p) t' h in
    let there = below_last_child t (list_of ts) p (select_last t (list_of ts) p s) in
    let same : x.before ≡ list_of ts = let f = x.found in cc in
    select_child t' p [] x.after (exchange_child t p x.after t' x.exchanged)
    ∙ ap Some (added_to ts v x.after (sym (ap (λ l. add_item l v) (of_items-items ts)) ∙ sym (ap (add_to v) same) ∙ x.changed))
appended_to_list p (q ∷ ps) v ts t t' h s =
    let x : Passes t p (append_at q ps v) (below t p) t' = through_passes t p (append_at q ps v) (below t p) t' h in
    select_child t' p (q ∷ ps) x.after (exchange_child t p x.after t' x.exchanged)
    ∙ appended_to_list q ps v ts x.before x.after x.changed (sym (select_below t p x.before x.found q ps) ∙ s)

new_list : (t : Tree) (p : Part) (u : Tree) → below_last t p ≡ Some u → select t (p ∷ []) ≡ None → u ≡ list no_items
new_list = below_last_cases (λ t p u. select t (p ∷ []) ≡ None → u ≡ list no_items)
    (λ t p u h g. let f : select t (p ∷ []) ≡ Some u = ap (option_and_then (λ w. select w [])) h in absurd cc)
    (λ fs k h g. refl)

pub appended_to_nothing : (p : Part) (ps : List Part) (v t t' : Tree) → append_at p ps v t ≡ Some t' → select t (p ∷ ps) ≡ None → select t' (p ∷ ps) ≡ Some (list_of (v ∷ []))
appended_to_nothing p [] v t t' h s =
    let x : Passes t p (add_to v) (below_last t p) t' = through_passes t p (add_to v) (below_last t p) t' h in
    let same : x.before ≡ list no_items = new_list t p x.before x.found s in
    select_child t' p [] x.after (exchange_child t p x.after t' x.exchanged) ∙ sym x.changed ∙ ap (add_to v) same
appended_to_nothing p (q ∷ ps) v t t' h s =
    let x : Passes t p (append_at q ps v) (below t p) t' = through_passes t p (append_at q ps v) (below t p) t' h in
    select_child t' p (q ∷ ps) x.after (exchange_child t p x.after t' x.exchanged)
    ∙ appended_to_nothing q ps v x.before x.after x.changed (sym (select_below t p x.before x.found q ps) ∙ s)

-- what stood at a place still does
get_kept : (ts : List Tree) (v : Tree) (j : ℕ) → j < length ts → slice_get (ts ++ v ∷ []) j ≡ slice_get ts j
get_kept [] v j h = absurd (omega arith)
get_kept (t ∷ ts) v zero h = refl
get_kept (t ∷ ts) v (suc j) h = get_kept ts v j (omega arith)

item_kept : (ts : List Tree) (v x : Tree) (j : ℕ) → item_at ts (pos j) ≡ Some x → item_at (ts ++ v ∷ []) (pos j) ≡ Some x
item_kept ts v x j h = go (nat_lt j (length ts)) refl h
  where
    go : (b : Bool) → nat_lt j (length ts) ≡ b → option_and_then (slice_get ts) (if b then Some j else None) ≡ Some x → item_at (ts ++ v ∷ []) (pos j) ≡ Some x
    go false e h = absurd cc
    go true e h =
        let lt = ltb-true j (length ts) e in
        let n = length-append ts (v ∷ []) in
        front (ts ++ v ∷ []) j (omega arith) ∙ get_kept ts v j lt ∙ h

pub append_keeps_place : (p : Part) (ps : List Part) (v w : Tree) (j : ℕ) (qs : List Part) (t t' : Tree) → append_at p ps v t ≡ Some t' → select t ((p ∷ ps) ++ place (pos j) ∷ qs) ≡ Some w → select t' ((p ∷ ps) ++ place (pos j) ∷ qs) ≡ Some w
append_keeps_place p ps v w j qs t t' h s = go (select t (p ∷ ps)) refl (sym (select-append t (p ∷ ps) (place (pos j) ∷ qs)) ∙ s)
  where
    kept : (ts : List Tree) → select t (p ∷ ps) ≡ Some (list_of ts) → (o : Option Tree) → item_at ts (pos j) ≡ o → option_and_then (λ u. select u qs) o ≡ Some w → select t' ((p ∷ ps) ++ place (pos j) ∷ qs) ≡ Some w
    kept ts e None f g = absurd cc
    kept ts e (Some x) f g =
        select_item t' (p ∷ ps) (ts ++ v ∷ []) (pos j) qs (appended_to_list p ps v ts t t' h e)
        ∙ ap (option_and_then (λ u. select u qs)) (item_kept ts v x j f)
        ∙ g

    go : (o : Option Tree) → select t (p ∷ ps) ≡ o → option_and_then (λ u. select u (place (pos j) ∷ qs)) o ≡ Some w → select t' ((p ∷ ps) ++ place (pos j) ∷ qs) ≡ Some w
    go None e g = absurd cc
    go (Some (list ts)) e g = kept (of_items ts) (e ∙ ap (λ l. Some (list l)) (sym (items-of_items ts))) (item_at (of_items ts) (pos j)) refl g
    go (Some (int z)) e g = absurd cc
    go (Some (string z)) e g = absurd cc
    go (Some (compound fs)) e g = absurd cc
