-- Laws of worlds: what is read where something was written, and what some commands leave.
use Rattle.std.proofs.Common.{◌≡◌, ◌≤◌, List, ◌∷◌, Option, Some, None, Bool, true, false, refl, sym, ap, ◌∙◌}
use Rattle.std.specs.Prelude.{ℤ, ◌+ℤ◌, if◌then◌else◌, unwrap_or, ◌&&◌}
use Rattle.std.specs.Str.{bytes_eq}
use Rattle.std.proofs.lemmas.Slice.Eq.{bytes_eq-Decides}
use Rattle.mc_nbt.specs.Tree.{Tree, compound, no_fields, Part, depth, set, set_at}
use Rattle.mc_nbt.proofs.TreeLemmas.{bytes_refl, set_or_same}
use Rattle.mc_cmd.specs.Form.{Text}
use Rattle.mc_cmd.specs.Command.{add, score_set, score_op}
use Rattle.mc_cmd.specs.World.{World, with_objective, with_score_at, with_score, with_storage, tree_in, stored, leaves, fails, operated, or_zero, wrapped, effect}
use Rattle.mc_cmd.proofs.FormLemmas.{and_first, and_second, and_both}

-- what was written is read at its place, in one that differs what stood there before
written_here : {A : Type 0} (b : Bool) (x y : A) → b ≡ true → (if b then x else y) ≡ x
written_here true x y e = refl
written_here false x y e = absurd cc

kept_there : {A : Type 0} (b : Bool) (x y : A) → b ≡ false → (if b then x else y) ≡ y
kept_there true x y e = absurd cc
kept_there false x y e = refl

-- objectives
pub objective_here : (w : World) (o : Text) → (with_objective w o).objectives o ≡ true
objective_here w o = written_here (bytes_eq o o) true (w.objectives o) (bytes_refl o)

pub objective_elsewhere : (w : World) (o p : Text) → bytes_eq o p ≡ false → (with_objective w o).objectives p ≡ w.objectives p
objective_elsewhere w o p e = kept_there (bytes_eq o p) true (w.objectives p) e

-- scores
pub score_here : (w : World) (h o : Text) (v : Option ℤ) → (with_score_at w h o v).scores h o ≡ v
score_here w h o v = written_here (bytes_eq h h && bytes_eq o o) v (w.scores h o) (and_both _ _ (bytes_refl h) (bytes_refl o))

pub score_of_other_holder : (w : World) (h o i p : Text) (v : Option ℤ) → bytes_eq h i ≡ false → (with_score_at w h o v).scores i p ≡ w.scores i p
score_of_other_holder w h o i p v e = kept_there (bytes_eq h i && bytes_eq o p) v (w.scores i p) (ap (λ b. b && bytes_eq o p) e)

pub score_of_other_objective : (w : World) (h o i p : Text) (v : Option ℤ) → bytes_eq o p ≡ false → (with_score_at w h o v).scores i p ≡ w.scores i p
score_of_other_objective w h o i p v e = kept_there (bytes_eq h i && bytes_eq o p) v (w.scores i p) (neither (bytes_eq h i) (bytes_eq o p) e)
  where
    neither : (a b : Bool) → b ≡ false → a && b ≡ false
    neither true b e = e
    neither false b e = refl

-- a score written with what it is
pub with_score-same : (w : World) (h o : Text) (v : Option ℤ) → w.scores h o ≡ v → with_score_at w h o v ≡ w
with_score-same w h o v e = λ k. record w { scores = λ i. λ p. here i p (bytes_eq h i && bytes_eq o p) refl k }
  where
    here : (i p : Text) (b : Bool) → bytes_eq h i && bytes_eq o p ≡ b → (if b then v else w.scores i p) ≡ w.scores i p
    here i p true f =
        let x : h ≡ i = (bytes_eq-Decides h i).0 (and_first _ _ f) in
        let y : o ≡ p = (bytes_eq-Decides o p).0 (and_second (bytes_eq h i) _ f) in
        sym (ap (λ j. w.scores j p) (sym x) ∙ ap (w.scores h) (sym y) ∙ e)
    here i p false f = refl

-- a write after a write of the same score
pub with_score-twice : (w : World) (h o : Text) (u v : Option ℤ) → with_score_at (with_score_at w h o u) h o v ≡ with_score_at w h o v
with_score-twice w h o u v = λ k. record w { scores = λ i. λ p. here i p (bytes_eq h i && bytes_eq o p) k }
  where
    here : (i p : Text) (b : Bool) → (if b then v else (if b then u else w.scores i p)) ≡ (if b then v else w.scores i p)
    here i p true = refl
    here i p false = refl

-- storages
pub storage_here : (w : World) (i : Text) (t : Tree) → (with_storage w i t).storages i ≡ Some t
storage_here w i t = written_here (bytes_eq i i) (Some t) (w.storages i) (bytes_refl i)

pub storage_elsewhere : (w : World) (i j : Text) (t : Tree) → bytes_eq i j ≡ false → (with_storage w i t).storages j ≡ w.storages j
storage_elsewhere w i j t e = kept_there (bytes_eq i j) (Some t) (w.storages j) e

pub tree_here : (w : World) (i : Text) (t : Tree) → w.storages i ≡ Some t → tree_in w i ≡ t
tree_here w i t h = ap (λ o. unwrap_or o (compound no_fields)) h

pub tree_elsewhere : (w : World) (i j : Text) (t : Tree) → bytes_eq i j ≡ false → tree_in (with_storage w i t) j ≡ tree_in w j
tree_elsewhere w i j t e = ap (λ o. unwrap_or o (compound no_fields)) (storage_elsewhere w i j t e)

-- a storage written with what it holds
pub with_storage-same : (w : World) (i : Text) (t : Tree) → w.storages i ≡ Some t → with_storage w i t ≡ w
with_storage-same w i t h = λ k. record w { storages = λ j. here j (bytes_eq i j) refl k }
  where
    here : (j : Text) (b : Bool) → bytes_eq i j ≡ b → (if b then Some t else w.storages j) ≡ w.storages j
    here j true e = sym (ap w.storages (sym ((bytes_eq-Decides i j).0 e)) ∙ h)
    here j false e = refl

-- a write after a write to the same storage
pub with_storage-twice : (w : World) (i : Text) (t u : Tree) → with_storage (with_storage w i t) i u ≡ with_storage w i u
with_storage-twice w i t u = λ k. record w { storages = λ j. here j (bytes_eq i j) k }
  where
    here : (j : Text) (b : Bool) → (if b then Some u else (if b then Some t else w.storages j)) ≡ (if b then Some u else w.storages j)
    here j true = refl
    here j false = refl

-- The command `set` leaves the storage with the value at the path, also where it fails because an equal
-- one stands there already.
pub stored_set : (w : World) (i : Text) (t t' v : Tree) (p : Part) (ps : List Part) → w.storages i ≡ Some t → set_at p ps v t ≡ Some t' → depth t' ≤ 64
    → (stored w i (set (tree_in w i) (p ∷ ps) v)).world ≡ with_storage w i t'
stored_set w i t t' v p ps h s d =
    ap (λ u. (stored w i (set u (p ∷ ps) v)).world) (tree_here w i t h) ∙ go (set t (p ∷ ps) v) (set_or_same p ps v t t' s d)
  where
    go : (o : Option Tree) → unwrap_or o t ≡ t' → (stored w i o).world ≡ with_storage w i t'
    go None e = sym (ap (with_storage w i) (sym e) ∙ with_storage-same w i t h)
    go (Some u) e = ap (with_storage w i) e

-- a score that is set, and the sum of two, where the objective stands
pub score_set_effect : (w : World) (h o : Text) (z : ℤ) → w.objectives o ≡ true → (effect (score_set h o z) w).world ≡ with_score w h o z
score_set_effect w h o z e = ap (λ b. (if b then leaves (with_score w h o z) else fails w).world) e

pub score_sum_effect : (w : World) (h i o : Text) (a b : ℤ) → w.objectives o ≡ true → w.scores h o ≡ Some a → w.scores i o ≡ Some b → (effect (score_op h o add i o) w).world ≡ with_score w h o (wrapped (a +ℤ b))
score_sum_effect w h i o a b e f g =
    ap (λ c. (if c then (if c then operated w h o add i o (w.scores i o) else fails w) else fails w).world) e
    ∙ ap (λ s. (operated w h o add i o s).world) g
    ∙ ap (λ s. with_score w h o (wrapped (or_zero s +ℤ b))) f
