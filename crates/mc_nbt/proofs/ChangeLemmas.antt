-- When a change is made, by the tests that the code makes before it, and that it leaves a tree.
use Rattle.std.proofs.Common.{◌≡◌, ℕ, suc, ◌+◌, ◌≤◌, List, [], ◌∷◌, length, Option, Some, None, Bool, true, false, refl, sym, ap, ◌∙◌, subst, arith}
use Rattle.std.specs.Prelude.{if◌then◌else◌, ◌||◌, nat_lt, nat_le, Result, Ok, Err}
use Rattle.std.specs.List.{list_all}
use Rattle.std.proofs.lemmas.Bool.{leb-true}
use Rattle.std.proofs.lemmas.Bool.Decides.{nat_tests}
use Rattle.mc_nbt.specs.Tree.{Tree, Part, depth, select, set_at, set, append_at, append, remove, is_already}
use Rattle.mc_nbt.specs.Path.{is_part, is_path, begins_with_key}
use Rattle.mc_nbt.specs.Shape.{IsTree, is_shaped}
use Rattle.mc_nbt.specs.Change.{IsChanged, Changes}
use Rattle.mc_nbt.specs.steps.Edit.{Edit, made, fails, short, is_short, IsEdit, IsSettled}
use Rattle.mc_nbt.specs.declared.edit.Changed.{Changed}
use Rattle.mc_nbt.specs.declared.edit.Changed.TheVariants as changed
use Rattle.mc_nbt.specs.declared.memory.Memory.{Memory}
use Rattle.mc_nbt.proofs.TestLemmas.{and_first, and_second}
use Rattle.mc_nbt.proofs.DepthLaws.{set_within, append_within}
use Rattle.mc_nbt.proofs.ShapeLaws.{set_is_tree, append_is_tree, remove_is_tree}

-- the parts of a path
pub path_parts : (ps : List Part) → is_path ps ≡ true → list_all is_part ps ≡ true
unfolding is_path
path_parts ps h = and_second (nat_le (length ps) 16) _ (and_second (begins_with_key ps) _ h)

pub path_most : (ps : List Part) → is_path ps ≡ true → length ps ≤ 16
unfolding is_path
path_most ps h = leb-true (length ps) 16 (and_first (nat_le (length ps) 16) _ (and_second (begins_with_key ps) _ h))

pub path_not_empty : is_path [] ≡ true → ⊥
unfolding is_path
path_not_empty h = cc

tree_depth : (t : Tree) → IsTree t → depth t ≤ 64
tree_depth t h = leb-true (depth t) 64 (and_second (is_shaped t) _ h)

not_within : (n : ℕ) (b : Bool) → nat_lt 64 n ≡ b → nat_le n 64 ≡ (if b then false else true)
not_within n true h = grind (arith, nat_tests)
not_within n false h = grind (arith, nat_tests)

turned : {A : Type 0} (b : Bool) (x y : A) → (if (if b then false else true) then x else y) ≡ (if b then y else x)
turned true x y = refl
turned false x y = refl

-- `set` is the change at the path but where an equal tree is there already and where it would be too deep
pub set_tested : (t : Tree) (qs : List Part) (p : Part) (ps : List Part) (v : Tree) (b : Bool) → qs ≡ p ∷ ps → IsTree t → is_already (select t qs) v || nat_lt 64 (length qs + depth v) ≡ b
    → set t qs v ≡ (if b then None else set_at p ps v t)
set_tested t qs p ps v b e h refused =
    ap (λ qs. set t qs v) e
    ∙ ap (λ o. if is_already (select t (p ∷ ps)) v then None else o) (set_within p ps v t (tree_depth t h) ∙ ap (λ b. if b then set_at p ps v t else None) (not_within (length (p ∷ ps) + depth v) _ refl) ∙ turned (nat_lt 64 (length (p ∷ ps) + depth v)) (set_at p ps v t) None)
    ∙ either (is_already (select t (p ∷ ps)) v) (nat_lt 64 (length (p ∷ ps) + depth v))
    ∙ ap (λ b. if b then None else set_at p ps v t) (ap (λ qs. is_already (select t qs) v || nat_lt 64 (length qs + depth v)) (sym e) ∙ refused)
  where
    either : (a d : Bool) → (if a then None else (if d then None else set_at p ps v t)) ≡ (if a || d then None else set_at p ps v t)
    either true d = refl
    either false d = refl

pub append_tested : (t : Tree) (qs : List Part) (p : Part) (ps : List Part) (v : Tree) (b : Bool) → qs ≡ p ∷ ps → IsTree t → nat_lt 64 (suc (length qs) + depth v) ≡ b
    → append t qs v ≡ (if b then None else append_at p ps v t)
append_tested t qs p ps v b e h deep =
    ap (λ qs. append t qs v) e
    ∙ append_within p ps v t (tree_depth t h)
    ∙ ap (λ b. if b then append_at p ps v t else None) (not_within (suc (length (p ∷ ps)) + depth v) b (ap (λ qs. nat_lt 64 (suc (length qs) + depth v)) (sym e) ∙ deep))
    ∙ turned b (append_at p ps v t) None

-- what stands after a change is a tree where what it makes is one
pub changed_keeps : (c : Changed) (old new : Tree) (target : Option Tree) → IsChanged c old new target → IsTree old → ((t : Tree) → target ≡ Some t → IsTree t) → IsTree new
changed_keeps changed.Yes old new target i h f = f new i
changed_keeps changed.No old new target i h f = subst IsTree (sym i.1) h

pub changes_keep : (r : Result Changed Memory) (old new : Tree) (target : Option Tree) → Changes r old new target → IsTree old → ((t : Tree) → target ≡ Some t → IsTree t) → IsTree new
changes_keep (Ok c) old new target i h f = changed_keeps c old new target i h f
changes_keep (Err m) old new target i h f = subst IsTree (sym i) h

-- a change leaves a tree
pub set_keeps : (t v : Tree) (qs : List Part) (u : Tree) → is_path qs ≡ true → IsTree t → IsTree v → set t qs v ≡ Some u → IsTree u
set_keeps t v [] u p h g e = absurd (path_not_empty p)
set_keeps t v (q ∷ qs) u p h g e = set_is_tree q qs v t u h g (path_parts (q ∷ qs) p) e

pub append_keeps : (t v : Tree) (qs : List Part) (u : Tree) → is_path qs ≡ true → IsTree t → IsTree v → append t qs v ≡ Some u → IsTree u
append_keeps t v [] u p h g e = absurd (path_not_empty p)
append_keeps t v (q ∷ qs) u p h g e = append_is_tree q qs v t u h g (path_parts (q ∷ qs) p) e

pub remove_keeps : (t : Tree) (qs : List Part) (u : Tree) → IsTree t → remove t qs ≡ Some u → IsTree u
remove_keeps t [] u h e = absurd cc
remove_keeps t (q ∷ qs) u h e = remove_is_tree q qs t u h e

-- a change by value whose tree is put back is a change in place
pub settled_changes : (e : Edit) (r : Result Changed Memory) (old new : Tree) (target : Option Tree) → IsEdit e old target → IsSettled e r new → Changes r old new target
settled_changes (made t) (Ok c) old new target h s =
    let P : Changed → Type 0 = λ c. IsChanged c old new target in
    subst P (sym s.0) (h ∙ ap Some (sym s.1))
settled_changes (made t) (Err m) old new target h s = absurd s
settled_changes (fails t) (Ok c) old new target h s =
    let P : Changed → Type 0 = λ c. IsChanged c old new target in
    subst P (sym s.0) (h.0, s.1 ∙ h.1)
settled_changes (fails t) (Err m) old new target h s = absurd s
settled_changes (short t) (Ok c) old new target h s = absurd s
settled_changes (short t) (Err m) old new target h s = s ∙ h

-- a change that takes no memory finds it
pub settled_spared : (e : Edit) (m : Memory) (new : Tree) → is_short e ≡ false → IsSettled e (Err m) new → ⊥
settled_spared (made t) m new h s = s
settled_spared (fails t) m new h s = s
settled_spared (short t) m new h s = cc
