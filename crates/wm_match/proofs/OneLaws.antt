-- Modules are linked in one way at most.
use Rattle.std.proofs.Common.{◌≡◌, ◌⊎◌, inl, inr, ℕ, zero, suc, ◌<◌, ◌≤◌, List, [], ◌∷◌, ◌++◌, length, map, Option, Some, option_map, refl, sym, ap, ap₂, subst, ◌∙◌, arith}
use Rattle.std.specs.Prelude.{slice_get, unwrap_or, option_and_then, All, AllPairs, Contains}
use Rattle.std.proofs.lemmas.Bool.{cases_order}
use Rattle.std.proofs.lemmas.Option.{slice_get-map, slice_get_within, get_or_from_slice_get, slice_get-get_or}
use Rattle.wm_ast.specs.declared.module.Export.{Export}
use Rattle.wm_ast.specs.declared.module.Import.{Import}
use Rattle.wm_ast.specs.declared.module.Imported.{Imported}
use Rattle.wm_ast.specs.declared.module.Imported.TheVariants as imported
use Rattle.wm_ast.specs.declared.module.Module.{Module}
use Rattle.wm_ast.specs.declared.module.Space.{Space}
use Rattle.wm_match.specs.declared.library.Binding.{Binding}
use Rattle.wm_match.specs.declared.library.Library.{Library}
use Rattle.wm_match.specs.Binds.{IsFound, IsBound, Matches, AreBound, NamesDiffer, Binds}
use Rattle.wm_match.specs.Cause.{program}
use Rattle.wm_match.specs.Closed.{Closed}
use Rattle.wm_match.specs.Program.{Program, modules_of, module_of, bindings_at}
use Rattle.wm_match.specs.Space.{items_of, stands_for}

pub at_place : {A : Type 0} (P : A → Type 0) (xs : List A) (n : ℕ) (x : A) → All P xs → slice_get xs n ≡ Some x → P x
at_place P xs n x h e = subst P (get_or_from_slice_get xs n x x e) (h n x (slice_get_within xs n x e))

pub get_left : {A : Type 0} (xs ys : List A) (n : ℕ) (x : A) → slice_get xs n ≡ Some x → slice_get (xs ++ ys) n ≡ Some x
get_left [] ys n x e = absurd cc
get_left (y ∷ xs) ys zero x e = e
get_left (y ∷ xs) ys (suc n) x e = get_left xs ys n x e

-- two places at which one name stands are one place
pub one_place : {A B : Type 0} (name : A → B) (xs : List A) (i j : ℕ) (x y : A) → AllPairs (λ a b. (name a ≡ name b → ⊥)) xs
    → slice_get xs i ≡ Some x → slice_get xs j ≡ Some y → name x ≡ name y → i ≡ j
one_place name xs i j x y apart e f same = by_order (cases_order i j)
  where
    differ : (k l : ℕ) (u v : _) → k < l → slice_get xs k ≡ Some u → slice_get xs l ≡ Some v → name u ≡ name v → ⊥
    differ k l u v lt p q w =
        let a = get_or_from_slice_get xs k u u p in
        let b = get_or_from_slice_get xs l v u q in
        apart k l u lt (slice_get_within xs l v q) (ap name a ∙ w ∙ sym (ap name b))

    by_order : (i ≡ j) ⊎ ((i < j) ⊎ (j < i)) → i ≡ j
    by_order (inl h) = h
    by_order (inr (inl h)) = absurd (differ i j x y h e f same)
    by_order (inr (inr h)) = absurd (differ j i y x h f e (sym same))

-- there is an item at each place below the length
pub found_below : {A : Type 0} (xs : List A) (n : ℕ) → n < length xs → (x : A) × (slice_get xs n ≡ Some x)
found_below [] n h = absurd (omega arith)
found_below (x ∷ xs) zero h = (x, refl)
found_below (x ∷ xs) (suc n) h = found_below xs n (omega arith)

-- two lists that are the same at each place
same_list : {A : Type 0} (xs ys : List A) → length xs ≡ length ys → ((n : ℕ) (x y : A) → slice_get xs n ≡ Some x → slice_get ys n ≡ Some y → x ≡ y) → xs ≡ ys
same_list [] [] e h = refl
same_list [] (y ∷ ys) e h = absurd (omega arith)
same_list (x ∷ xs) [] e h = absurd (omega arith)
same_list (x ∷ xs) (y ∷ ys) e h =
    ap₂ (λ (z : _) (l : List _). z ∷ l) (h zero x y refl refl) (same_list xs ys (omega arith) (λ n u v p q. h (suc n) u v p q))

pub item_at : (es : List Export) (e : Export) (h : Contains es e) → slice_get es h.0 ≡ Some e
item_at es e h = slice_get-get_or es h.0 e h.1 ∙ ap (λ (z : Export). Some z) h.2

-- imports of fewer modules
pub fewer : (p : Program) (j k : ℕ) → j ≤ k → AreBound p k → AreBound p j
fewer p j k le b = record { counts = λ i m lt e. b.counts i m (omega arith) e; bound = λ i n m x y lt e f g. b.bound i n m x y (omega arith) e f g }

module _ (libraries : List Library) (main : Module) (names : NamesDiffer libraries) (closed : All Closed (modules_of libraries main)) where
  pub library_there : (j : ℕ) (l : Library) → slice_get libraries j ≡ Some l → slice_get (modules_of libraries main) j ≡ Some l.module
  library_there j l e = get_left (map module_of libraries) (main ∷ []) j l.module (slice_get-map module_of libraries j ∙ ap (option_map module_of) e)

  -- what an import is found as is one export

  pub one_number : (k : ℕ) (i : Import) (f g : IsFound libraries k i) → f.number ≡ g.number
  one_number k i f g = one_place (λ (l : Library). l.name) libraries f.number g.number f.library g.library names f.there g.there (f.name ∙ sym g.name)

  pub one_library : (k : ℕ) (i : Import) (f g : IsFound libraries k i) → f.library ≡ g.library
  one_library k i f g =
      let e : Some f.library ≡ Some g.library = sym f.there ∙ ap (slice_get libraries) (one_number k i f g) ∙ g.there in
      cc

  pub one_item : (k : ℕ) (i : Import) (f g : IsFound libraries k i) → f.item ≡ g.item
  one_item k i f g =
      let l = one_library k i f g in
      let c : Closed f.library.module = at_place Closed (modules_of libraries main) f.number f.library.module closed (library_there f.number f.library f.there) in
      let u = item_at f.library.module.exports f.item f.exported in
      let v : slice_get f.library.module.exports g.exported.0 ≡ Some g.item = ap (λ (z : Library). slice_get z.module.exports g.exported.0) l ∙ item_at g.library.module.exports g.item g.exported in
      let n : f.exported.0 ≡ g.exported.0 =
      one_place (λ (e : Export). e.name) f.library.module.exports f.exported.0 g.exported.0 f.item g.item c.names u v (f.item_name ∙ sym g.item_name) in
      let w : Some f.item ≡ Some g.item = sym u ∙ ap (slice_get f.library.module.exports) n ∙ v in
      cc

  -- two ways to bind the imports
  module _ (bs cs : List (List Binding)) where
    abbrev Same : ℕ → Type 0
    Same j = bindings_at (program libraries main bs) j ≡ bindings_at (program libraries main cs) j

    -- a module's indices stand for the same where its imports are bound to the same
    stands_alike : (space : Space) (j n : ℕ) → Same j → stands_for (program libraries main bs) space j n ≡ stands_for (program libraries main cs) space j n
    stands_alike space j n e = ap (λ (ps : List Binding). option_and_then (λ m. slice_get (items_of space j m ps) n) (slice_get (modules_of libraries main) j)) e

    -- a binding of an import is one of other bindings that are the same below
    pub bound_too : (k : ℕ) (m : Module) (i : Import) (x : Binding) → ((j : ℕ) → j < k → Same j)
        → IsBound (program libraries main bs) k m i x → IsBound (program libraries main cs) k m i x
    bound_too k m i x before p = record {
      found = p.found;
      kind = p.kind;
      stands = sym (stands_alike p.found.item.space p.found.number p.found.item.index (before p.found.number p.found.earlier)) ∙ p.stands;
      type = matches i.what p.type;
    }
      where
        matches : (w : Imported) → Matches (program libraries main bs) m w x → Matches (program libraries main cs) m w x
        matches (imported.Func t) h = h
        matches (imported.Table l) h = h
        matches (imported.Memory l) h = h
        matches (imported.Global ty is_mutable) h = h

    pub bound_alike : (k : ℕ) (m : Module) (i : Import) (x y : Binding) → ((j : ℕ) → j < k → Same j)
        → IsBound (program libraries main bs) k m i x → IsBound (program libraries main cs) k m i y → x ≡ y
    bound_alike k m i x y before p q =
        let n = one_number k i p.found q.found in
        let e = one_item k i p.found q.found in
        let s = stands_alike p.found.item.space p.found.number p.found.item.index (before p.found.number p.found.earlier) in
        let t : stands_for (program libraries main cs) p.found.item.space p.found.number p.found.item.index ≡ Some y =
        ap₂ (λ (j : ℕ) (z : Export). stands_for (program libraries main cs) z.space j z.index) n e ∙ q.stands in
        let w : Some x ≡ Some y = sym p.stands ∙ s ∙ t in
        cc

    part_alike : (k : ℕ) (m : Module) → AreBound (program libraries main bs) (suc k) → AreBound (program libraries main cs) (suc k)
        → slice_get (modules_of libraries main) k ≡ Some m → ((j : ℕ) → j < k → Same j) → Same k
    part_alike k m b c e before =
        same_list (bindings_at (program libraries main bs) k) (bindings_at (program libraries main cs) k) (b.counts k m (omega arith) e ∙ sym (c.counts k m (omega arith) e))
        (λ n x y p q.
        let lt = slice_get_within (bindings_at (program libraries main bs) k) n x p in
        let l = b.counts k m (omega arith) e in
        let i = found_below m.imports n (let z : n < length m.imports = omega arith in z) in
        bound_alike k m i.0 x y before (b.bound k n m i.0 x (omega arith) e i.1 p) (c.bound k n m i.0 y (omega arith) e i.1 q))

    by_order : (k j : ℕ) → AreBound (program libraries main bs) (suc k) → AreBound (program libraries main cs) (suc k) → j < suc k → suc k ≤ length (modules_of libraries main)
        → ((l : ℕ) → l < k → Same l) → (j ≡ k) ⊎ ((j < k) ⊎ (k < j)) → Same j
    by_order k j b c lt le below (inl h) =
        let m = found_below (modules_of libraries main) k (omega arith) in
        subst Same (sym h) (part_alike k m.0 b c m.1 below)
    by_order k j b c lt le below (inr (inl h)) = below j h
    by_order k j b c lt le below (inr (inr h)) = absurd (omega arith)

    -- below the number of modules
    pub parts_alike : (k : ℕ) → AreBound (program libraries main bs) k → AreBound (program libraries main cs) k → k ≤ length (modules_of libraries main)
        → (j : ℕ) → j < k → Same j
    parts_alike zero b c le j lt = absurd (omega arith)
    parts_alike (suc k) b c le j lt =
        by_order k j b c lt le
        (parts_alike k (fewer (program libraries main bs) k (suc k) (omega arith) b) (fewer (program libraries main cs) k (suc k) (omega arith) c) (omega arith))
        (cases_order j k)

-- modules are linked in one way at most
pub one_way : (libraries : List Library) (main : Module) (bs cs : List (List Binding)) → Binds (program libraries main bs) → Binds (program libraries main cs) → bs ≡ cs
one_way libraries main bs cs b c =
    same_list bs cs (b.parts ∙ sym c.parts)
    (λ n x y p q.
    let lt = slice_get_within bs n x p in
    let l = b.parts in
    let e = parts_alike libraries main b.can.names b.can.closed bs cs (length (modules_of libraries main)) b.bound c.bound (omega arith) n (omega arith) in
    sym (ap (λ (o : Option (List Binding)). unwrap_or o []) p) ∙ e ∙ ap (λ (o : Option (List Binding)). unwrap_or o []) q)
