-- What a command that writes a storage leaves of a world: what other paths select, other storages, and all the rest.
use Rattle.std.proofs.Common.{◌≡◌, ◌<◌, ℕ, List, [], ◌∷◌, ◌++◌, length, Option, Some, None, Bool, true, false, refl, sym, ap, ◌∙◌, subst, arith}
use Rattle.std.specs.Prelude.{pos, negsuc, nat_le, if◌then◌else◌, option_and_then}
use Rattle.std.specs.Str.{bytes_eq}
use Rattle.std.proofs.lemmas.List.{length-append}
use Rattle.mc_nbt.specs.Path.{Apart, Outlives}
use Rattle.mc_nbt.specs.Tree.{Tree, Part, place, list_of, index_of, depth, select, is_already, within_depth, set, set_at, append, append_at, remove}
use Rattle.mc_nbt.proofs.RemoveLaws.{remove_outlives, append_keeps_place, last_removed, place_before_removed}
use Rattle.mc_nbt.proofs.SelectLaws.{select_apart, append_apart, select_after_append, last_index}
use Rattle.mc_cmd.specs.Form.{Text}
use Rattle.mc_cmd.specs.Command.{Simple, objective_add, score_set, score_add, score_remove, score_get, score_op, score_reset, data_get, set_value, set_from, append_value, append_from, data_remove, call, call_with, return_value, chain_length}
use Rattle.mc_cmd.specs.World.{World, with_storage, tree_in, stored, effect, put_at, changed_at}
use Rattle.mc_cmd.proofs.FormLemmas.{and_then_some, some_same}
use Rattle.mc_cmd.proofs.WorldLemmas.{storage_here, storage_elsewhere, tree_here}

-- a change within the greatest depth is the change
within_some : (o : Option Tree) (u : Tree) → option_and_then within_depth o ≡ Some u → o ≡ Some u
within_some None u h = absurd cc
within_some (Some t) u h = go (nat_le (depth t) 64) h
  where
    go : (b : Bool) → (if b then Some t else None) ≡ Some u → Some t ≡ Some u
    go true h = h
    go false h = absurd cc

-- paths that part from the one of a `set` and of an `append`
set_apart : (t v u : Tree) (ps qs : List Part) → Apart ps qs → set t ps v ≡ Some u → select u qs ≡ select t qs
set_apart t v u [] qs a h = absurd cc
set_apart t v u (p ∷ ps) [] a h = elim a [ ]
set_apart t v u (p ∷ ps) (q ∷ qs) a h = go (is_already (select t (p ∷ ps)) v) h
  where
    go : (b : Bool) → (if b then None else option_and_then within_depth (set_at p ps v t)) ≡ Some u → select u (q ∷ qs) ≡ select t (q ∷ qs)
    go true h = absurd cc
    go false h = select_apart p ps q qs v t u a (within_some (set_at p ps v t) u h)

appended_apart : (t v u : Tree) (ps qs : List Part) → Apart ps qs → append t ps v ≡ Some u → select u qs ≡ select t qs
appended_apart t v u [] qs a h = absurd cc
appended_apart t v u (p ∷ ps) [] a h = elim a [ ]
appended_apart t v u (p ∷ ps) (q ∷ qs) a h = append_apart p ps q qs v t u a (within_some (append_at p ps v t) u h)

-- a storage that was written holds what was written
pub stored_tree : (w : World) (i : Text) (o : Option Tree) (u : Tree) → o ≡ Some u → tree_in (stored w i o).world i ≡ u
stored_tree w i o u e = ap (λ x. tree_in (stored w i x).world i) e ∙ tree_here (with_storage w i u) i u (storage_here w i u)

-- what a path selects in a storage that was written
pub stored_selects : (w : World) (i : Text) (o : Option Tree) (qs : List Part) → ((u : Tree) → o ≡ Some u → select u qs ≡ select (tree_in w i) qs) → select (tree_in (stored w i o).world i) qs ≡ select (tree_in w i) qs
stored_selects w i None qs f = refl
stored_selects w i (Some u) qs f = ap (λ t. select t qs) (tree_here (with_storage w i u) i u (storage_here w i u)) ∙ f u refl

-- the same of what was selected, and put there
taken_selects : (w : World) (i : Text) (change : Tree → Option Tree) (o : Option Tree) (qs : List Part) → ((v u : Tree) → change v ≡ Some u → select u qs ≡ select (tree_in w i) qs) → select (tree_in (stored w i (option_and_then change o)).world i) qs ≡ select (tree_in w i) qs
taken_selects w i change o qs f = stored_selects w i (option_and_then change o) qs (λ u e. let q = and_then_some change o u e in f q.0 u q.2)

-- a path that parts from the one at which a value is put selects what it did
abbrev Kept : Simple → World → List Part → Text × List Part → Type 0
Kept s w qs p = Apart p.1 qs → select (tree_in (effect s w).world p.0) qs ≡ select (tree_in w p.0) qs

pub put_apart : (s : Simple) (w : World) (i : Text) (ps qs : List Part) → put_at s ≡ Some (i, ps) → Apart ps qs → select (tree_in (effect s w).world i) qs ≡ select (tree_in w i) qs
put_apart (objective_add o) w i ps qs e a = absurd cc
put_apart (score_set h o z) w i ps qs e a = absurd cc
put_apart (score_add h o z) w i ps qs e a = absurd cc
put_apart (score_remove h o z) w i ps qs e a = absurd cc
put_apart (score_get h o) w i ps qs e a = absurd cc
put_apart (score_op h o op k r) w i ps qs e a = absurd cc
put_apart (score_reset h o) w i ps qs e a = absurd cc
put_apart (data_get k rs) w i ps qs e a = absurd cc
put_apart (set_value k rs v) w i ps qs e a = subst (Kept (set_value k rs v) w qs) (some_same (k, rs) (i, ps) e) (λ b. stored_selects w k (set (tree_in w k) rs v) qs (λ u. set_apart (tree_in w k) v u rs qs b)) a
put_apart (set_from k rs l us) w i ps qs e a = subst (Kept (set_from k rs l us) w qs) (some_same (k, rs) (i, ps) e) (λ b. taken_selects w k (set (tree_in w k) rs) (select (tree_in w l) us) qs (λ v u. set_apart (tree_in w k) v u rs qs b)) a
put_apart (append_value k rs v) w i ps qs e a = subst (Kept (append_value k rs v) w qs) (some_same (k, rs) (i, ps) e) (λ b. stored_selects w k (append (tree_in w k) rs v) qs (λ u. appended_apart (tree_in w k) v u rs qs b)) a
put_apart (append_from k rs l us) w i ps qs e a = subst (Kept (append_from k rs l us) w qs) (some_same (k, rs) (i, ps) e) (λ b. taken_selects w k (append (tree_in w k) rs) (select (tree_in w l) us) qs (λ v u. appended_apart (tree_in w k) v u rs qs b)) a
put_apart (data_remove k rs) w i ps qs e a = absurd cc
put_apart (call f) w i ps qs e a = absurd cc
put_apart (call_with f k rs) w i ps qs e a = absurd cc
put_apart (return_value z) w i ps qs e a = absurd cc
put_apart chain_length w i ps qs e a = absurd cc

-- a path that outlives the one whose value is removed selects what it did
pub removed_outlives : (w : World) (i : Text) (ps qs : List Part) → Outlives ps qs → select (tree_in (effect (data_remove i ps) w).world i) qs ≡ select (tree_in w i) qs
removed_outlives w i ps qs a = stored_selects w i (remove (tree_in w i) ps) qs (λ u. remove_outlives ps qs (tree_in w i) u a)

-- other storages, and the rest of the world
stored_elsewhere : (w : World) (i j : Text) (o : Option Tree) → bytes_eq i j ≡ false → (stored w i o).world.storages j ≡ w.storages j
stored_elsewhere w i j None n = refl
stored_elsewhere w i j (Some t) n = storage_elsewhere w i j t n

-- all but the storages
pub record KeepsRest (w w' : World) : Type 0 where
  pub objectives : w'.objectives ≡ w.objectives
  pub scores : w'.scores ≡ w.scores
  pub rule : w'.rule ≡ w.rule

pub stored_keeps : (w : World) (i : Text) (o : Option Tree) → KeepsRest w (stored w i o).world
stored_keeps w i None = record { objectives = refl; scores = refl; rule = refl }
stored_keeps w i (Some t) = record { objectives = refl; scores = refl; rule = refl }

pub changed_elsewhere : (s : Simple) (w : World) (i : Text) (ps : List Part) (j : Text) → changed_at s ≡ Some (i, ps) → bytes_eq i j ≡ false → (effect s w).world.storages j ≡ w.storages j
changed_elsewhere (objective_add o) w i ps j e n = absurd cc
changed_elsewhere (score_set h o z) w i ps j e n = absurd cc
changed_elsewhere (score_add h o z) w i ps j e n = absurd cc
changed_elsewhere (score_remove h o z) w i ps j e n = absurd cc
changed_elsewhere (score_get h o) w i ps j e n = absurd cc
changed_elsewhere (score_op h o op k r) w i ps j e n = absurd cc
changed_elsewhere (score_reset h o) w i ps j e n = absurd cc
changed_elsewhere (data_get k rs) w i ps j e n = absurd cc
changed_elsewhere (set_value k rs v) w i ps j e n = stored_elsewhere w k j (set (tree_in w k) rs v) (ap (λ (q : Text × List Part). bytes_eq q.0 j) (some_same (k, rs) (i, ps) e) ∙ n)
changed_elsewhere (set_from k rs l us) w i ps j e n = stored_elsewhere w k j (option_and_then (set (tree_in w k) rs) (select (tree_in w l) us)) (ap (λ (q : Text × List Part). bytes_eq q.0 j) (some_same (k, rs) (i, ps) e) ∙ n)
changed_elsewhere (append_value k rs v) w i ps j e n = stored_elsewhere w k j (append (tree_in w k) rs v) (ap (λ (q : Text × List Part). bytes_eq q.0 j) (some_same (k, rs) (i, ps) e) ∙ n)
changed_elsewhere (append_from k rs l us) w i ps j e n = stored_elsewhere w k j (option_and_then (append (tree_in w k) rs) (select (tree_in w l) us)) (ap (λ (q : Text × List Part). bytes_eq q.0 j) (some_same (k, rs) (i, ps) e) ∙ n)
changed_elsewhere (data_remove k rs) w i ps j e n = stored_elsewhere w k j (remove (tree_in w k) rs) (ap (λ (q : Text × List Part). bytes_eq q.0 j) (some_same (k, rs) (i, ps) e) ∙ n)
changed_elsewhere (call f) w i ps j e n = absurd cc
changed_elsewhere (call_with f k rs) w i ps j e n = absurd cc
changed_elsewhere (return_value z) w i ps j e n = absurd cc
changed_elsewhere chain_length w i ps j e n = absurd cc

pub changed_keeps : (s : Simple) (w : World) (i : Text) (ps : List Part) → changed_at s ≡ Some (i, ps) → KeepsRest w (effect s w).world
changed_keeps (objective_add o) w i ps e = absurd cc
changed_keeps (score_set h o z) w i ps e = absurd cc
changed_keeps (score_add h o z) w i ps e = absurd cc
changed_keeps (score_remove h o z) w i ps e = absurd cc
changed_keeps (score_get h o) w i ps e = absurd cc
changed_keeps (score_op h o op k r) w i ps e = absurd cc
changed_keeps (score_reset h o) w i ps e = absurd cc
changed_keeps (data_get k rs) w i ps e = absurd cc
changed_keeps (set_value k rs v) w i ps e = stored_keeps w k (set (tree_in w k) rs v)
changed_keeps (set_from k rs l us) w i ps e = stored_keeps w k (option_and_then (set (tree_in w k) rs) (select (tree_in w l) us))
changed_keeps (append_value k rs v) w i ps e = stored_keeps w k (append (tree_in w k) rs v)
changed_keeps (append_from k rs l us) w i ps e = stored_keeps w k (option_and_then (append (tree_in w k) rs) (select (tree_in w l) us))
changed_keeps (data_remove k rs) w i ps e = stored_keeps w k (remove (tree_in w k) rs)
changed_keeps (call f) w i ps e = absurd cc
changed_keeps (call_with f k rs) w i ps e = absurd cc
changed_keeps (return_value z) w i ps e = absurd cc
changed_keeps chain_length w i ps e = absurd cc

pub changed_objectives : (s : Simple) (w : World) (i : Text) (ps : List Part) → changed_at s ≡ Some (i, ps) → (effect s w).world.objectives ≡ w.objectives
changed_objectives s w i ps e = (changed_keeps s w i ps e).objectives

pub changed_scores : (s : Simple) (w : World) (i : Text) (ps : List Part) → changed_at s ≡ Some (i, ps) → (effect s w).world.scores ≡ w.scores
changed_scores s w i ps e = (changed_keeps s w i ps e).scores

pub changed_rule : (s : Simple) (w : World) (i : Text) (ps : List Part) → changed_at s ≡ Some (i, ps) → (effect s w).world.rule ≡ w.rule
changed_rule s w i ps e = (changed_keeps s w i ps e).rule

-- ---- elements of lists

-- what holds of what a change leaves holds of the storage where the command succeeds
where_stored : (w : World) (i : Text) (o : Option Tree) (P : Tree → Type 0) → (stored w i o).success ≡ true → ((u : Tree) → o ≡ Some u → P u) → P (tree_in (stored w i o).world i)
where_stored w i None P s f = let y : false ≡ true = s in absurd cc
where_stored w i (Some u) P s f = subst P (sym (tree_here (with_storage w i u) i u (storage_here w i u))) (f u refl)

appended_last : (t v u : Tree) (ps : List Part) → append t ps v ≡ Some u → select u (ps ++ place (negsuc 0) ∷ []) ≡ Some v
appended_last t v u [] h = absurd cc
appended_last t v u (p ∷ ps) h = select_after_append p ps v t u (within_some (append_at p ps v t) u h)

appended_kept : (t v u y : Tree) (ps : List Part) (n : ℕ) (qs : List Part) → append t ps v ≡ Some u → select t (ps ++ place (pos n) ∷ qs) ≡ Some y → select u (ps ++ place (pos n) ∷ qs) ≡ Some y
appended_kept t v u y [] n qs h e = absurd cc
appended_kept t v u y (p ∷ ps) n qs h e = append_keeps_place p ps v y n qs t u (within_some (append_at p ps v t) u h) e

-- what is appended is last
pub value_last : (w : World) (i : Text) (ps : List Part) (v : Tree) → (effect (append_value i ps v) w).success ≡ true → select (tree_in (effect (append_value i ps v) w).world i) (ps ++ place (negsuc 0) ∷ []) ≡ Some v
value_last w i ps v s =
    where_stored w i (append (tree_in w i) ps v) (λ t. select t (ps ++ place (negsuc 0) ∷ []) ≡ Some v) s (λ u h. appended_last (tree_in w i) v u ps h)

pub copy_last : (w : World) (i : Text) (ps : List Part) (k : Text) (rs : List Part) (v : Tree) → select (tree_in w k) rs ≡ Some v → (effect (append_from i ps k rs) w).success ≡ true → select (tree_in (effect (append_from i ps k rs) w).world i) (ps ++ place (negsuc 0) ∷ []) ≡ Some v
copy_last w i ps k rs v e s =
    where_stored w i (option_and_then (append (tree_in w i) ps) (select (tree_in w k) rs)) (λ t. select t (ps ++ place (negsuc 0) ∷ []) ≡ Some v) s
    (λ u h.
    let q = and_then_some (append (tree_in w i) ps) (select (tree_in w k) rs) u h in
    appended_last (tree_in w i) q.0 u ps q.2 ∙ (sym q.1 ∙ e))

-- and what stood at a place from the front stands there still
pub value_keeps : (w : World) (i : Text) (ps : List Part) (v y : Tree) (n : ℕ) (qs : List Part) → select (tree_in w i) (ps ++ place (pos n) ∷ qs) ≡ Some y → select (tree_in (effect (append_value i ps v) w).world i) (ps ++ place (pos n) ∷ qs) ≡ Some y
value_keeps w i ps v y n qs e =
    stored_selects w i (append (tree_in w i) ps v) (ps ++ place (pos n) ∷ qs) (λ u h. appended_kept (tree_in w i) v u y ps n qs h e ∙ sym e) ∙ e

pub copy_keeps : (w : World) (i : Text) (ps : List Part) (k : Text) (rs : List Part) (y : Tree) (n : ℕ) (qs : List Part) → select (tree_in w i) (ps ++ place (pos n) ∷ qs) ≡ Some y → select (tree_in (effect (append_from i ps k rs) w).world i) (ps ++ place (pos n) ∷ qs) ≡ Some y
copy_keeps w i ps k rs y n qs e =
    taken_selects w i (append (tree_in w i) ps) (select (tree_in w k) rs) (ps ++ place (pos n) ∷ qs) (λ v u h. appended_kept (tree_in w i) v u y ps n qs h e ∙ sym e) ∙ e

-- the last element is removed
pub last_taken : (w : World) (i : Text) (ps : List Part) (ts : List Tree) (v : Tree) → select (tree_in w i) ps ≡ Some (list_of (ts ++ v ∷ [])) → (effect (data_remove i (ps ++ place (negsuc 0) ∷ [])) w).success ≡ true → select (tree_in (effect (data_remove i (ps ++ place (negsuc 0) ∷ [])) w).world i) ps ≡ Some (list_of ts)
last_taken w i ps ts v e s =
    where_stored w i (remove (tree_in w i) (ps ++ place (negsuc 0) ∷ [])) (λ t. select t ps ≡ Some (list_of ts)) s (λ u h. last_removed ps ts v (tree_in w i) u e h)

pub places_before_last : (w : World) (i : Text) (ps : List Part) (ts : List Tree) (v : Tree) (n : ℕ) (qs : List Part) → select (tree_in w i) ps ≡ Some (list_of (ts ++ v ∷ [])) → n < length ts → select (tree_in (effect (data_remove i (ps ++ place (negsuc 0) ∷ [])) w).world i) (ps ++ place (pos n) ∷ qs) ≡ select (tree_in w i) (ps ++ place (pos n) ∷ qs)
places_before_last w i ps ts v n qs e l =
    let m = length-append ts (v ∷ []) in
    let last : index_of (length (ts ++ v ∷ [])) (negsuc 0) ≡ Some (length ts) = last_index (length (ts ++ v ∷ [])) (length ts) (omega arith) in
    stored_selects w i (remove (tree_in w i) (ps ++ place (negsuc 0) ∷ [])) (ps ++ place (pos n) ∷ qs)
    (λ u h. place_before_removed ps (negsuc 0) (length ts) (ts ++ v ∷ []) n qs (tree_in w i) u e last h l)
