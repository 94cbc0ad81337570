-- Changes below a path: the change of what stands there, put back.
use Rattle.std.proofs.Common.{◌≡◌, ◌≤◌, ◌+◌, ℕ, List, [], ◌∷◌, ◌++◌, length, Option, Some, None, true, false, refl, sym, ap, ◌∙◌, arith}
use Rattle.std.specs.Prelude.{max, if◌then◌else◌, nat_eq, option_map, option_and_then, slice_get, slice_set}
use Rattle.std.specs.Str.{bytes_eq}
use Rattle.std.proofs.lemmas.Slice.Eq.{bytes_eq-Decides}
use Rattle.mc_nbt.specs.Path.{Apart}
use Rattle.mc_nbt.specs.Path.Differ.{keys}
use Rattle.mc_nbt.specs.Path.Apart.{here, later}
use Rattle.mc_nbt.specs.Tree.{Tree, Part, key, of_items, of_fields, list_of, compound_of, put, item_at, child, select, put_item, exchange, kind, is_of_kind, put_last, through, put_back, set_at, append_at, remove_at, depth}
use Rattle.mc_nbt.proofs.TreeLemmas.{below_child, select_last}
use Rattle.mc_nbt.proofs.StepLemmas.{Passes, through_passes, child_cases}
use Rattle.mc_nbt.proofs.SelectLaws.{select_after_set, select_child, exchange_child, exchange_apart}
use Rattle.mc_nbt.proofs.DepthLaws.{child_depth, exchange_depth_most}

-- a path and then another
pub select-append : (t : Tree) (ps qs : List Part) → select t (ps ++ qs) ≡ option_and_then (λ u. select u qs) (select t ps)
select-append t [] qs = refl
select-append t (p ∷ ps) qs = go (child t p) (λ u. select-append u ps qs)
  where
    go : (o : Option Tree) → ((u : Tree) → select u (ps ++ qs) ≡ option_and_then (λ u. select u qs) (select u ps)) → option_and_then (λ u. select u (ps ++ qs)) o ≡ option_and_then (λ u. select u qs) (option_and_then (λ u. select u ps) o)
    go None ih = refl
    go (Some u) ih = ih u

pub select_further : (t u : Tree) (ps qs : List Part) → select t ps ≡ Some u → select t (ps ++ qs) ≡ select u qs
select_further t u ps qs h = select-append t ps qs ∙ ap (option_and_then (λ u. select u qs)) h

-- inside what was set
pub select_inside_set : (p : Part) (ps qs : List Part) (v t t' : Tree) → set_at p ps v t ≡ Some t' → select t' ((p ∷ ps) ++ qs) ≡ select v qs
select_inside_set p ps qs v t t' h = select_further t' v (p ∷ ps) qs (select_after_set p ps v t t' h)

-- what a path selects stands below its first step
pub select_first : (t u : Tree) (p : Part) (ps : List Part) → select t (p ∷ ps) ≡ Some u → (w : Tree) × (child t p ≡ Some w) × (select w ps ≡ Some u)
select_first t u p ps h = go (child t p) refl h
  where
    go : (o : Option Tree) → child t p ≡ o → option_and_then (λ w. select w ps) o ≡ Some u → (w : Tree) × (child t p ≡ Some w) × (select w ps ≡ Some u)
    go None e h = absurd cc
    go (Some w) e h = (w, e, h)

-- another child in place of one that stands
pub exchange_there : (t : Tree) (p : Part) (u : Tree) → child t p ≡ Some u → (v : Tree) → (t' : Tree) × (exchange t p v ≡ Some t')
exchange_there = child_cases (λ t p u. (v : Tree) → (t' : Tree) × (exchange t p v ≡ Some t'))
    (λ fs k u h v. (compound_of (put k v (of_fields fs)), refl))
    (λ ts i k u h g v. (list_of (slice_set (of_items ts) k v), ap (option_map (λ k. list_of (slice_set (of_items ts) k v))) h))

-- a tree is put back wherever one stands, and stands there then
pub put_back_there : (ps : List Part) (t u v : Tree) → select t ps ≡ Some u → (t' : Tree) × (put_back t ps v ≡ Some t')
put_back_there [] t u v h = (v, refl)
put_back_there (p ∷ ps) t u v h =
    let c = select_first t u p ps h in
    let i = put_back_there ps c.0 u v c.2 in
    let e = exchange_there t p c.0 c.1 i.0 in
    (e.0, ap (through t p (λ w. put_back w ps v)) c.1 ∙ ap (option_and_then (exchange t p)) i.1 ∙ e.1)

pub put_back_selected : (ps : List Part) (t v t' : Tree) → put_back t ps v ≡ Some t' → select t' ps ≡ Some v
put_back_selected [] t v t' h = sym h
put_back_selected (p ∷ ps) t v t' h =
    let s : Passes t p (λ w. put_back w ps v) (child t p) t' = through_passes t p (λ w. put_back w ps v) (child t p) t' h in
    select_child t' p ps s.after (exchange_child t p s.after t' s.exchanged) ∙ put_back_selected ps s.before v s.after s.changed

-- what is apart from it is as before
pub put_back_apart : (v : Tree) (as' bs : List Part) → Apart as' bs → (t t' : Tree) → put_back t as' v ≡ Some t' → select t' bs ≡ select t bs
put_back_apart v as' bs (here p q ps qs d) = λ t t' h.
    let s : Passes t p (λ w. put_back w ps v) (child t p) t' = through_passes t p (λ w. put_back w ps v) (child t p) t' h in
    ap (option_and_then (λ w. select w qs)) (exchange_apart t p s.after t' s.exchanged q d)
put_back_apart v as' bs (later p ps qs a) = λ t t' h.
    let s : Passes t p (λ w. put_back w ps v) (child t p) t' = through_passes t p (λ w. put_back w ps v) (child t p) t' h in
    select_child t' p qs s.after (exchange_child t p s.after t' s.exchanged)
    ∙ put_back_apart v ps qs a s.before s.after s.changed
    ∙ sym (select_child t p qs s.before s.found)

-- the tree isn't deeper than it was, or than what is put back makes it
pub put_back_depth : (ps : List Part) (t v t' : Tree) → put_back t ps v ≡ Some t' → depth t' ≤ max (depth t) (length ps + depth v)
put_back_depth [] t v t' h = let e : v ≡ t' = cc in let d = ap depth e in omega arith
put_back_depth (p ∷ ps) t v t' h =
    let s : Passes t p (λ w. put_back w ps v) (child t p) t' = through_passes t p (λ w. put_back w ps v) (child t p) t' h in
    let deeper = put_back_depth ps s.before v s.after s.changed in
    let above = child_depth t p s.before s.found in
    let here' = exchange_depth_most t p s.after t' s.exchanged in
    omega arith

-- a change that goes down a path through the children that stand
abbrev pub GoesBelow : (Part → List Part → Tree → Option Tree) → Type 0
GoesBelow f = (p q : Part) (ps : List Part) (t u : Tree) → child t p ≡ Some u → f p (q ∷ ps) t ≡ option_and_then (exchange t p) (f q ps u)

pub set_goes_below : (v : Tree) → GoesBelow (λ p ps. set_at p ps v)
set_goes_below v p q ps t u h = ap (through t p (set_at q ps v)) (below_child t u p h)

pub append_goes_below : (v : Tree) → GoesBelow (λ p ps. append_at p ps v)
append_goes_below v p q ps t u h = ap (through t p (append_at q ps v)) (below_child t u p h)

pub remove_goes_below : GoesBelow remove_at
remove_goes_below p q ps t u h = ap (through t p (remove_at q ps)) h

-- a change below a path is the change of what stands there, put back
one_after : (g h : Tree → Option Tree) (o : Option Tree) → option_and_then g (option_and_then h o) ≡ option_and_then (λ x. option_and_then g (h x)) o
one_after g h None = refl
one_after g h (Some x) = refl

pub below_is : (f : Part → List Part → Tree → Option Tree) → GoesBelow f → (ps : List Part) (p q : Part) (qs : List Part) (t u : Tree) → select t (p ∷ ps) ≡ Some u → f p (ps ++ q ∷ qs) t ≡ option_and_then (put_back t (p ∷ ps)) (f q qs u)
below_is f g [] p q qs t u h =
    let there : child t p ≡ Some u = select_last t u p h in
    g p q qs t u there ∙ sym (ap (λ o. option_and_then (λ x. through t p (λ w. put_back w [] x) o) (f q qs u)) there)
below_is f g (p2 ∷ ps) p q qs t u h =
    let c = select_first t u p (p2 ∷ ps) h in
    let w = c.0 in
    g p p2 (ps ++ q ∷ qs) t w c.1
    ∙ ap (option_and_then (exchange t p)) (below_is f g ps p2 q qs w u c.2)
    ∙ one_after (exchange t p) (put_back w (p2 ∷ ps)) (f q qs u)
    ∙ sym (ap (λ o. option_and_then (λ x. through t p (λ y. put_back y (p2 ∷ ps) x) o) (f q qs u)) c.1)

pub set_below : (p : Part) (ps : List Part) (q : Part) (qs : List Part) (v t u : Tree) → select t (p ∷ ps) ≡ Some u → set_at p (ps ++ q ∷ qs) v t ≡ option_and_then (put_back t (p ∷ ps)) (set_at q qs v u)
set_below p ps q qs v t u h = below_is (λ p ps. set_at p ps v) (set_goes_below v) ps p q qs t u h

pub append_below : (p : Part) (ps : List Part) (q : Part) (qs : List Part) (v t u : Tree) → select t (p ∷ ps) ≡ Some u → append_at p (ps ++ q ∷ qs) v t ≡ option_and_then (put_back t (p ∷ ps)) (append_at q qs v u)
append_below p ps q qs v t u h = below_is (λ p ps. append_at p ps v) (append_goes_below v) ps p q qs t u h

pub remove_below : (p : Part) (ps : List Part) (q : Part) (qs : List Part) (t u : Tree) → select t (p ∷ ps) ≡ Some u → remove_at p (ps ++ q ∷ qs) t ≡ option_and_then (put_back t (p ∷ ps)) (remove_at q qs u)
remove_below p ps q qs t u h = below_is remove_at remove_goes_below ps p q qs t u h

-- a change that is made of what stands at a path is made below it
pub changed_below : (f : Part → List Part → Tree → Option Tree) → GoesBelow f → (ps : List Part) (p q : Part) (qs : List Part) (t u u' : Tree) → select t (p ∷ ps) ≡ Some u → f q qs u ≡ Some u' → (t' : Tree) × (f p (ps ++ q ∷ qs) t ≡ Some t') × (put_back t (p ∷ ps) u' ≡ Some t')
changed_below f g ps p q qs t u u' s h =
    let b = put_back_there (p ∷ ps) t u u' s in
    (b.0, below_is f g ps p q qs t u s ∙ ap (option_and_then (put_back t (p ∷ ps))) h ∙ b.1, b.1)

-- a value in place of one of its kind can be set
pub set_like : (ps : List Part) (p : Part) (v t u : Tree) → select t (p ∷ ps) ≡ Some u → nat_eq (kind u) (kind v) ≡ true → (t' : Tree) × (set_at p ps v t ≡ Some t')
set_like [] p v t u s k = here_set t p u (select_last t u p s) k
  where
    here_set : (t : Tree) (p : Part) (u : Tree) → child t p ≡ Some u → nat_eq (kind u) (kind v) ≡ true → (t' : Tree) × (put_last t p v ≡ Some t')
    here_set = child_cases (λ t p u. nat_eq (kind u) (kind v) ≡ true → (t' : Tree) × (put_last t p v ≡ Some t'))
        (λ fs n w h k. (compound_of (put n v (of_fields fs)), refl))
        (λ ts i n w h g k.
        let at : item_at (of_items ts) i ≡ Some w = ap (option_and_then (slice_get (of_items ts))) h ∙ g in (
          list_of (slice_set (of_items ts) n v),
          ap (λ o. if is_of_kind o v then put_item (of_items ts) i v else None) at
              ∙ ap (λ b. if b then put_item (of_items ts) i v else None) k
              ∙ ap (option_map (λ k. list_of (slice_set (of_items ts) k v))) h,
        ))
set_like (q ∷ ps) p v t u s k =
    let c = select_first t u p (q ∷ ps) s in
    let i = set_like ps q v c.0 u c.2 k in
    let e = exchange_there t p c.0 c.1 i.0 in
    (e.0, set_goes_below v p q ps t c.0 c.1 ∙ ap (option_and_then (exchange t p)) i.1 ∙ e.1)

-- paths that begin with two keys
pub keys_apart : (k l : List ℕ) (ps qs : List Part) → bytes_eq k l ≡ false → Apart (key k ∷ ps) (key l ∷ qs)
keys_apart k l ps qs e = here (key k) (key l) ps qs (keys k l (λ same. let f : bytes_eq k l ≡ true = (bytes_eq-Decides k l).1 same in absurd cc))

pub apart_longer : (as' bs rs : List Part) → Apart as' bs → Apart (as' ++ rs) bs
apart_longer _ _ rs (here p q ps qs d) = here p q (ps ++ rs) qs d
apart_longer _ _ rs (later p ps qs a) = later p (ps ++ rs) qs (apart_longer ps qs rs a)
