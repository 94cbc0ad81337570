-- What a write of a score or of a key leaves of what a world shows.
use Rattle.std.proofs.Common.{◌≡◌, ◌≢◌, ℕ, ◌+◌, ◌≤◌, ◌<◌, List, [], ◌∷◌, ◌++◌, Option, Some, None, Bool, true, false, refl, sym, ap, ◌∙◌, subst, arith}
use Rattle.std.specs.Prelude.{ℤ, max, nat_eq, nat_le, if◌then◌else◌, unwrap_or, option_and_then, ◌&&◌}
use Rattle.std.specs.Str.{bytes_eq}
use Rattle.std.proofs.lemmas.Bool.{le-leb, leb-true, leb-false}
use Rattle.std.proofs.lemmas.Slice.Eq.{bytes_eq-Decides}
use Rattle.mc_nbt.specs.Tree.{Tree, compound, compound_of, Fields, of_fields, put, Part, key, child, select, depth, set, set_at, append, append_at, remove, remove_at, within_depth, is_already, find, exchange}
use Rattle.mc_nbt.specs.Path.{here, keys}
use Rattle.mc_nbt.proofs.TreeLemmas.{bytes_refl, set_or_same}
use Rattle.mc_nbt.proofs.SelectLaws.{select_after_set, select_apart}
use Rattle.mc_nbt.proofs.DepthLaws.{set_depth_most, set_depth_least, child_depth, remove_depth}
use Rattle.mc_cmd.specs.Form.{Text}
use Rattle.mc_cmd.specs.World.{World, with_score, with_storage, tree_in, stored}
use Rattle.mc_cmd.proofs.WorldLemmas.{storage_here, storage_elsewhere, tree_elsewhere, tree_here}
use Rattle.cc_line.specs.State.{set_under, append_under, remove_under, within_key}
use Rattle.cc_line.specs.Sight.{Store, in_io, in_memory, in_rest, store_id, same_store, Sight, with_key, with_holder, HasKeys, Shows, SameOutside}

-- ---- names

pub names_apart : (ns a b : Text) → bytes_eq (ns ++ a) (ns ++ b) ≡ bytes_eq a b
names_apart [] a b = refl
names_apart (n ∷ ns) a b = ap (λ e. e && bytes_eq (ns ++ a) (ns ++ b)) (nat_refl n) ∙ names_apart ns a b
  where
    nat_refl : (n : ℕ) → nat_eq n n ≡ true
    nat_refl n = grind arith

pub store_same : (s r : Store) → same_store s r ≡ true → s ≡ r
store_same in_io in_io e = refl
store_same in_memory in_memory e = refl
store_same in_rest in_rest e = refl
store_same in_io in_memory e = absurd cc
store_same in_io in_rest e = absurd cc
store_same in_memory in_io e = absurd cc
store_same in_memory in_rest e = absurd cc
store_same in_rest in_io e = absurd cc
store_same in_rest in_memory e = absurd cc

pub store_self : (s : Store) → same_store s s ≡ true
store_self in_io = refl
store_self in_memory = refl
store_self in_rest = refl

pub store_apart : (ns : Text) (s r : Store) → same_store s r ≡ false → bytes_eq (store_id ns s) (store_id ns r) ≡ false
store_apart ns in_io in_io e = absurd cc
store_apart ns in_memory in_memory e = absurd cc
store_apart ns in_rest in_rest e = absurd cc
store_apart ns in_io in_memory e = names_apart ns _ _
store_apart ns in_io in_rest e = names_apart ns _ _
store_apart ns in_memory in_io e = names_apart ns _ _
store_apart ns in_memory in_rest e = names_apart ns _ _
store_apart ns in_rest in_io e = names_apart ns _ _
store_apart ns in_rest in_memory e = names_apart ns _ _

bytes_differ : (k l : Text) → bytes_eq k l ≡ false → k ≢ l
bytes_differ k l e same = absurd (let f : bytes_eq k l ≡ true = ap (bytes_eq k) (sym same) ∙ bytes_refl k in cc)

-- ---- outside

pub outside_none : (ns : Text) (w : World) → SameOutside ns w w
outside_none ns w = record { objectives = λ o. refl; scores = λ h o n. refl; storages = λ i n. refl; rule = refl }

pub outside_both : (ns : Text) (w w1 w2 : World) → SameOutside ns w w1 → SameOutside ns w1 w2 → SameOutside ns w w2
outside_both ns w w1 w2 a b = record {
  objectives = λ o. b.objectives o ∙ a.objectives o;
  scores = λ h o n. b.scores h o n ∙ a.scores h o n;
  storages = λ i n. b.storages i n ∙ a.storages i n;
  rule = b.rule ∙ a.rule;
}

-- the world after a write, and that nothing else has changed
pub record Written (ns : Text) (w w' : World) (v : Sight) : Type 0 where
  pub shows : Shows ns w' v
  pub outside : SameOutside ns w w'

pub written_none : (ns : Text) (w : World) (v : Sight) → Shows ns w v → Written ns w w v
written_none ns w v h = record { shows = h; outside = outside_none ns w }

pub holds_as : (t t' : Tree) (ks js : Text → Option Tree) → HasKeys t ks → t ≡ t' → ((k : Text) → ks k ≡ js k) → HasKeys t' js
holds_as t t' ks js h e same = record {
  fields = h.fields;
  is = sym e ∙ h.is;
  at = λ k. ap (λ x. child x (key k)) (sym e) ∙ h.at k ∙ same k;
  shallow = subst (λ x. depth x ≤ 64) e h.shallow;
}

pub shows_as : (ns : Text) (w : World) (v u : Sight) → Shows ns w v → ((h : Text) → v.scores h ≡ u.scores h) → ((s : Store) (k : Text) → v.keys s k ≡ u.keys s k) → Shows ns w u
shows_as ns w v u h a b = record {
  objective = h.objective;
  scores = λ j. h.scores j ∙ a j;
  stores = λ s. holds_as _ _ _ _ (h.stores s) refl (b s);
}

-- ---- scores

pub score_written : (ns : Text) (w : World) (v : Sight) (h : Text) (z : ℤ) → Shows ns w v → Written ns w (with_score w h ns z) (record v { scores = with_holder v.scores h z })
score_written ns w v h z s = record {
  shows = record { objective = s.objective; scores = λ j. at j (bytes_eq h j); stores = s.stores };
  outside = record { objectives = λ o. refl; scores = λ j o n. other j o (bytes_eq h j) n; storages = λ i n. refl; rule = refl };
}
  where
    at : (j : Text) (b : Bool) → (if b && bytes_eq ns ns then Some z else w.scores j ns) ≡ (if b then Some z else v.scores j)
    at j true = ap (λ e. if e then Some z else w.scores j ns) (bytes_refl ns)
    at j false = s.scores j

    other : (j o : Text) (b : Bool) → bytes_eq ns o ≡ false → (if b && bytes_eq ns o then Some z else w.scores j o) ≡ w.scores j o
    other j o true n = ap (λ e. if e then Some z else w.scores j o) n
    other j o false n = refl

-- ---- keys

-- a `set`, an `append` and a `remove` at a path that begins with a key are those below the key, put back
set_whole : (fs : Fields) (k : Text) (ps : List Part) (t : Tree) → set_at (key k) ps t (compound fs) ≡ option_and_then (exchange (compound fs) (key k)) (set_under (find k (of_fields fs)) ps t)
set_whole fs k [] t = refl
set_whole fs k (q ∷ qs) t = refl

append_whole : (fs : Fields) (k : Text) (ps : List Part) (t : Tree) → append_at (key k) ps t (compound fs) ≡ option_and_then (exchange (compound fs) (key k)) (append_under (find k (of_fields fs)) ps t)
append_whole fs k [] t = refl
append_whole fs k (q ∷ qs) t = refl

remove_whole : (fs : Fields) (k : Text) (q : Part) (qs : List Part) → remove_at (key k) (q ∷ qs) (compound fs) ≡ option_and_then (exchange (compound fs) (key k)) (remove_under (find k (of_fields fs)) (q ∷ qs))
remove_whole fs k q qs = go (find k (of_fields fs))
  where
    go : (o : Option Tree) → option_and_then (λ u. option_and_then (exchange (compound fs) (key k)) (remove_at q qs u)) o ≡ option_and_then (exchange (compound fs) (key k)) (option_and_then (remove_at q qs) o)
    go None = refl
    go (Some u) = refl

-- one step of a path selects what it leads to
select_one : (t : Tree) (p : Part) → select t (p ∷ []) ≡ child t p
select_one t p = go (child t p)
  where
    go : (o : Option Tree) → option_and_then (λ u. select u []) o ≡ o
    go None = refl
    go (Some u) = refl

stored_tree : (w : World) (i : Text) (o : Option Tree) (t : Tree) → unwrap_or o (tree_in w i) ≡ t → tree_in (stored w i o).world i ≡ t
stored_tree w i None t e = e
stored_tree w i (Some u) t e = tree_here (with_storage w i u) i u (storage_here w i u) ∙ e

stored_other : (w : World) (i j : Text) (o : Option Tree) → bytes_eq i j ≡ false → (stored w i o).world.storages j ≡ w.storages j
stored_other w i j None n = refl
stored_other w i j (Some u) n = storage_elsewhere w i j u n

pub stored_tree_other : (w : World) (i j : Text) (o : Option Tree) → bytes_eq i j ≡ false → tree_in (stored w i o).world j ≡ tree_in w j
stored_tree_other w i j None n = refl
stored_tree_other w i j (Some u) n = tree_elsewhere w i j u n

pub stored_scores : (w : World) (i : Text) (o : Option Tree) → (stored w i o).world.scores ≡ w.scores
stored_scores w i None = refl
stored_scores w i (Some u) = refl

pub stored_objectives : (w : World) (i : Text) (o : Option Tree) → (stored w i o).world.objectives ≡ w.objectives
stored_objectives w i None = refl
stored_objectives w i (Some u) = refl

stored_rule : (w : World) (i : Text) (o : Option Tree) → (stored w i o).world.rule ≡ w.rule
stored_rule w i None = refl
stored_rule w i (Some u) = refl

-- a tree with another one under a key
key_held : (fs : Fields) (ks : Text → Option Tree) (k : Text) (u : Tree) → HasKeys (compound fs) ks → depth u ≤ 63 → HasKeys (compound_of (put k u (of_fields fs))) (λ j. if bytes_eq k j then Some u else ks j)
key_held fs ks k u h d =
    record {
      fields = _;
      is = refl;
      at = λ j. at j (bytes_eq k j) refl;
      shallow = below (depth (compound fs)) (depth u) (depth (compound_of (put k u (of_fields fs)))) (set_depth_most (key k) [] u (compound fs) (compound_of (put k u (of_fields fs))) refl) h.shallow d;
    }
  where
    below : (a b n : ℕ) → n ≤ max a (1 + b) → a ≤ 64 → b ≤ 63 → n ≤ 64
    below a b n e f g = omega arith

    at : (j : Text) (b : Bool) → bytes_eq k j ≡ b → child (compound_of (put k u (of_fields fs))) (key j) ≡ (if b then Some u else ks j)
    at j true e =
        sym (select_one (compound_of (put k u (of_fields fs))) (key j)) ∙ ap (λ x. select (compound_of (put k u (of_fields fs))) (key x ∷ [])) (sym ((bytes_eq-Decides k j).0 e))
        ∙ select_after_set (key k) [] u (compound fs) (compound_of (put k u (of_fields fs))) refl
    at j false e =
        sym (select_one (compound_of (put k u (of_fields fs))) (key j))
        ∙ select_apart (key k) [] (key j) [] u (compound fs) (compound_of (put k u (of_fields fs))) (here (key k) (key j) [] [] (keys k j (bytes_differ k j e))) refl
        ∙ select_one (compound fs) (key j) ∙ h.at j

-- what a command leaves of a storage, where it is another tree under a key, or the tree as it was and that is the same
pub key_stored : (ns : Text) (w : World) (v : Sight) (s : Store) (k : Text) (u : Tree) (o : Option Tree) (h : Shows ns w v)
    → ((fs : Fields) → tree_in w (store_id ns s) ≡ compound fs → find k (of_fields fs) ≡ v.keys s k → unwrap_or o (tree_in w (store_id ns s)) ≡ compound_of (put k u (of_fields fs))) → depth u ≤ 63
    → Written ns w (stored w (store_id ns s) o).world (record v { keys = with_key v.keys s k u })
key_stored ns w v s k u o h e d = record {
  shows = record {
    objective = ap (λ f. f ns) (stored_objectives w (store_id ns s) o) ∙ h.objective;
    scores = λ j. ap (λ f. f j ns) (stored_scores w (store_id ns s) o) ∙ h.scores j;
    stores = λ r. store r (same_store s r) refl;
  };
  outside = record {
    objectives = λ p. ap (λ f. f p) (stored_objectives w (store_id ns s) o);
    scores = λ j p n. ap (λ f. f j p) (stored_scores w (store_id ns s) o);
    storages = λ j n. stored_other w (store_id ns s) j o (n s);
    rule = stored_rule w (store_id ns s) o;
  };
}
  where
    found : find k (of_fields (h.stores s).fields) ≡ v.keys s k
    found = ap (λ x. child x (key k)) (sym (h.stores s).is) ∙ (h.stores s).at k

    held : HasKeys (compound_of (put k u (of_fields (h.stores s).fields))) (λ j. if bytes_eq k j then Some u else v.keys s j)
    held = key_held (h.stores s).fields (v.keys s) k u (holds_as _ _ _ _ (h.stores s) (h.stores s).is (λ j. refl)) d

    after : tree_in (stored w (store_id ns s) o).world (store_id ns s) ≡ compound_of (put k u (of_fields (h.stores s).fields))
    after = stored_tree w (store_id ns s) o _ (e (h.stores s).fields (h.stores s).is found)

    store : (r : Store) (b : Bool) → same_store s r ≡ b → HasKeys (tree_in (stored w (store_id ns s) o).world (store_id ns r)) (λ j. if same_store s r && bytes_eq k j then Some u else v.keys r j)
    store r true e =
        let same : s ≡ r = store_same s r e in
        subst (λ x. HasKeys (tree_in (stored w (store_id ns s) o).world (store_id ns x)) (λ j. if same_store s x && bytes_eq k j then Some u else v.keys x j)) same
        (holds_as _ _ _ _ held (sym after) (λ j. sym (ap (λ b. if b && bytes_eq k j then Some u else v.keys s j) (store_self s))))
    store r false e =
        holds_as _ _ _ _ (h.stores r) (sym (stored_tree_other w (store_id ns s) (store_id ns r) o (store_apart ns s r e)))
        (λ j. sym (ap (λ b. if b && bytes_eq k j then Some u else v.keys r j) e))

-- a tree with another one under a key is not too deep
put_low : (fs : Fields) (k : Text) (u : Tree) → depth (compound fs) ≤ 64 → depth u ≤ 63 → depth (compound_of (put k u (of_fields fs))) ≤ 64
put_low fs k u a b = below (depth (compound fs)) (depth u) (depth (compound_of (put k u (of_fields fs)))) (set_depth_most (key k) [] u (compound fs) (compound_of (put k u (of_fields fs))) refl) a b
  where
    below : (a b n : ℕ) → n ≤ max a (1 + b) → a ≤ 64 → b ≤ 63 → n ≤ 64
    below a b n e f g = omega arith

-- a tree is too deep with one under a key that is
put_deep : (fs : Fields) (k : Text) (u : Tree) → 63 < depth u → 64 < depth (compound_of (put k u (of_fields fs)))
put_deep fs k u d = let x = set_depth_least (key k) [] u (compound fs) (compound_of (put k u (of_fields fs))) refl in omega arith

-- what a change of a storage leaves, where it puts a tree under a key, or fails: where it has none to put, and where
-- the tree is too deep
abbrev pub after_key : Sight → Store → Text → Option Tree → Sight
after_key v s k None = v
after_key v s k (Some u) = record v { keys = with_key v.keys s k u }

kept_world : (ns : Text) (w : World) (v : Sight) (i : Text) (o : Option Tree) → Shows ns w v → o ≡ None → Written ns w (stored w i o).world v
kept_world ns w v i o h e = subst (λ x. Written ns w (stored w i x).world v) (sym e) (written_none ns w v h)

-- a change that goes by the tree under the key: it fails where there is none to put, and where that is too deep
key_changed : (ns : Text) (w : World) (v : Sight) (s : Store) (k : Text) (below : Option Tree → Option Tree) (change : Tree → Option Tree) → Shows ns w v
    → ((fs : Fields) → below (find k (of_fields fs)) ≡ None → change (compound fs) ≡ None)
    → ((fs : Fields) (u : Tree) → below (find k (of_fields fs)) ≡ Some u → depth (compound fs) ≤ 64 → depth u ≤ 63 → unwrap_or (change (compound fs)) (compound fs) ≡ compound_of (put k u (of_fields fs)))
    → ((fs : Fields) (u : Tree) → below (find k (of_fields fs)) ≡ Some u → 63 < depth u → change (compound fs) ≡ None)
    → Written ns w (stored w (store_id ns s) (change (tree_in w (store_id ns s)))).world (after_key v s k (option_and_then within_key (below (v.keys s k))))
key_changed ns w v s k below change h none good deep = go (below (v.keys s k)) refl
  where
    is : tree_in w (store_id ns s) ≡ compound (h.stores s).fields
    is = (h.stores s).is

    found : find k (of_fields (h.stores s).fields) ≡ v.keys s k
    found = ap (λ x. child x (key k)) (sym (h.stores s).is) ∙ (h.stores s).at k

    shallow : depth (compound (h.stores s).fields) ≤ 64
    shallow = subst (λ x. depth x ≤ 64) is (h.stores s).shallow

    go : (o : Option Tree) → below (v.keys s k) ≡ o → Written ns w (stored w (store_id ns s) (change (tree_in w (store_id ns s)))).world (after_key v s k (option_and_then within_key o))
    go None e = kept_world ns w v (store_id ns s) _ h (ap change is ∙ none (h.stores s).fields (ap below found ∙ e))
    go (Some u) e = by (nat_le (depth u) 63) refl
      where
        by : (b : Bool) → nat_le (depth u) 63 ≡ b → Written ns w (stored w (store_id ns s) (change (tree_in w (store_id ns s)))).world (after_key v s k (if b then Some u else None))
        by true l = key_stored ns w v s k u (change (tree_in w (store_id ns s))) h
            (λ fs f g. ap (λ x. unwrap_or (change x) x) f ∙ good fs u (ap below g ∙ e) (subst (λ x. depth x ≤ 64) f (h.stores s).shallow) (leb-true (depth u) 63 l)) (leb-true (depth u) 63 l)
        by false l = kept_world ns w v (store_id ns s) _ h (ap change is ∙ deep (h.stores s).fields u (ap below found ∙ e) (leb-false (depth u) 63 l))

-- a tree that is within the depth, and one that isn't
within_kept : (t : Tree) → depth t ≤ 64 → within_depth t ≡ Some t
within_kept t d = ap (λ b. if b then Some t else None) (le-leb (depth t) 64 d)

within_none : (t : Tree) → 64 < depth t → within_depth t ≡ None
within_none t d = ap (λ b. if b then Some t else None) (lt-leb-false (depth t) d)
  where
    lt-leb-false : (n : ℕ) → 64 < n → nat_le n 64 ≡ false
    lt-leb-false n d = go (nat_le n 64) refl
      where
        go : (b : Bool) → nat_le n 64 ≡ b → b ≡ false
        go true e = absurd (let x = leb-true n 64 e in omega arith)
        go false e = refl

either_none : (b : Bool) (o : Option Tree) → o ≡ None → (if b then None else o) ≡ None
either_none true o e = refl
either_none false o e = e

-- a `set` at a path below a key
pub key_set : (ns : Text) (w : World) (v : Sight) (s : Store) (k : Text) (ps : List Part) (t : Tree) → Shows ns w v
    → Written ns w (stored w (store_id ns s) (set (tree_in w (store_id ns s)) (key k ∷ ps) t)).world (after_key v s k (option_and_then within_key (set_under (v.keys s k) ps t)))
key_set ns w v s k ps t h = key_changed ns w v s k (λ o. set_under o ps t) (λ x. set x (key k ∷ ps) t) h
    (λ fs e. either_none (is_already (select (compound fs) (key k ∷ ps)) t) _ (ap (option_and_then within_depth) (at fs None e)))
    (λ fs u e a b. set_or_same (key k) ps t (compound fs) (compound_of (put k u (of_fields fs))) (at fs (Some u) e) (put_low fs k u a b))
    (λ fs u e d. either_none (is_already (select (compound fs) (key k ∷ ps)) t) _ (ap (option_and_then within_depth) (at fs (Some u) e) ∙ within_none (compound_of (put k u (of_fields fs))) (put_deep fs k u d)))
  where
    at : (fs : Fields) (o : Option Tree) → set_under (find k (of_fields fs)) ps t ≡ o → set_at (key k) ps t (compound fs) ≡ option_and_then (exchange (compound fs) (key k)) o
    at fs o e = set_whole fs k ps t ∙ ap (option_and_then (exchange (compound fs) (key k))) e

-- an `append` at one
pub key_append : (ns : Text) (w : World) (v : Sight) (s : Store) (k : Text) (ps : List Part) (t : Tree) → Shows ns w v
    → Written ns w (stored w (store_id ns s) (append (tree_in w (store_id ns s)) (key k ∷ ps) t)).world (after_key v s k (option_and_then within_key (append_under (v.keys s k) ps t)))
key_append ns w v s k ps t h = key_changed ns w v s k (λ o. append_under o ps t) (λ x. append x (key k ∷ ps) t) h
    (λ fs e. ap (option_and_then within_depth) (at fs None e))
    (λ fs u e a b. ap (λ o. unwrap_or (option_and_then within_depth o) (compound fs)) (at fs (Some u) e) ∙ ap (λ o. unwrap_or o (compound fs)) (within_kept (compound_of (put k u (of_fields fs))) (put_low fs k u a b)))
    (λ fs u e d. ap (option_and_then within_depth) (at fs (Some u) e) ∙ within_none (compound_of (put k u (of_fields fs))) (put_deep fs k u d))
  where
    at : (fs : Fields) (o : Option Tree) → append_under (find k (of_fields fs)) ps t ≡ o → append_at (key k) ps t (compound fs) ≡ option_and_then (exchange (compound fs) (key k)) o
    at fs o e = append_whole fs k ps t ∙ ap (option_and_then (exchange (compound fs) (key k))) e

-- a `remove` at one, with at least one step behind the key
pub key_erase : (ns : Text) (w : World) (v : Sight) (s : Store) (k : Text) (q : Part) (qs : List Part) → Shows ns w v
    → Written ns w (stored w (store_id ns s) (remove (tree_in w (store_id ns s)) (key k ∷ q ∷ qs))).world (after_key v s k (remove_under (v.keys s k) (q ∷ qs)))
key_erase ns w v s k q qs h = go (remove_under (v.keys s k) (q ∷ qs)) refl
  where
    is : tree_in w (store_id ns s) ≡ compound (h.stores s).fields
    is = (h.stores s).is

    found : find k (of_fields (h.stores s).fields) ≡ v.keys s k
    found = ap (λ x. child x (key k)) (sym (h.stores s).is) ∙ (h.stores s).at k

    at : (fs : Fields) (o : Option Tree) → find k (of_fields fs) ≡ v.keys s k → remove_under (v.keys s k) (q ∷ qs) ≡ o → remove_at (key k) (q ∷ qs) (compound fs) ≡ option_and_then (exchange (compound fs) (key k)) o
    at fs o f e = remove_whole fs k q qs ∙ ap (λ x. option_and_then (exchange (compound fs) (key k)) (remove_under x (q ∷ qs))) f ∙ ap (option_and_then (exchange (compound fs) (key k))) e

    low : (u : Tree) → remove_under (v.keys s k) (q ∷ qs) ≡ Some u → depth u ≤ 63
    low u e = by (v.keys s k) refl e
      where
        by : (o : Option Tree) → v.keys s k ≡ o → remove_under o (q ∷ qs) ≡ Some u → depth u ≤ 63
        by None f e = absurd cc
        by (Some t) f e =
            let a = remove_depth q qs t u e in
            let b = child_depth (tree_in w (store_id ns s)) (key k) t ((h.stores s).at k ∙ f) in
            let d = (h.stores s).shallow in
            omega arith

    go : (o : Option Tree) → remove_under (v.keys s k) (q ∷ qs) ≡ o → Written ns w (stored w (store_id ns s) (remove (tree_in w (store_id ns s)) (key k ∷ q ∷ qs))).world (after_key v s k o)
    go None e = kept_world ns w v (store_id ns s) _ h (ap (remove_at (key k) (q ∷ qs)) is ∙ at (h.stores s).fields None found e)
    go (Some u) e = key_stored ns w v s k u (remove (tree_in w (store_id ns s)) (key k ∷ q ∷ qs)) h
        (λ fs f g. ap (λ x. unwrap_or (remove x (key k ∷ q ∷ qs)) x) f ∙ ap (λ o. unwrap_or o (compound fs)) (at fs (Some u) g e)) (low u e)

-- what a path under a key selects
pub key_selects : (ns : Text) (w : World) (v : Sight) (s : Store) (k : Text) (ps : List Part) → Shows ns w v → select (tree_in w (store_id ns s)) (key k ∷ ps) ≡ option_and_then (λ u. select u ps) (v.keys s k)
key_selects ns w v s k ps h = ap (option_and_then (λ u. select u ps)) ((h.stores s).at k)
