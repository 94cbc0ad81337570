-- What indices stand for, import by import.
use Rattle.std.proofs.Common.{◌≡◌, ℕ, zero, suc, ◌+◌, ◌-◌, ◌<◌, ◌≤◌, List, [], ◌∷◌, ◌++◌, length, get_or, drop, Bool, true, false, cond, Some, None, refl, sym, ap, ◌∙◌, arith}
use Rattle.std.specs.Prelude.{slice_get}
use Rattle.std.proofs.lemmas.List.{drop_more, drop_all}
use Rattle.std.proofs.lemmas.List.Sums.{count_by-le-length}
use Rattle.wm_ast.specs.declared.module.Import.{Import}
use Rattle.wm_ast.specs.declared.module.Module.{Module}
use Rattle.wm_ast.specs.declared.module.Space.{Space}
use Rattle.wm_ast.specs.declared.module.Space.TheVariants as spaces
use Rattle.wm_match.specs.declared.library.Binding.{Binding}
use Rattle.wm_match.specs.Lists.{HasListsWithin}
use Rattle.wm_match.specs.Space.{same_space, is_in, own_count, space_size, imported_items, own_items}

-- how many items there are
pub own_short : (n : ℕ) (m : Module) → HasListsWithin n m → (s : Space) → own_count s m ≤ n
own_short n m h spaces.Func = h.funcs
own_short n m h spaces.Table = h.tables
own_short n m h spaces.Memory = h.mems
own_short n m h spaces.Global = h.globals

pub size_short : (m : Module) → HasListsWithin 1048576 m → (s : Space) → space_size s m ≤ 2097152
size_short m h s =
    let a = own_short 1048576 m h s in
    let b = count_by-le-length (is_in s) m.imports in
    let c = h.imports in
    omega arith

-- an item that the module defines
own_from : (k from count n : ℕ) → n < count → slice_get (own_items k from count) n ≡ Some (record { «module» = k; index = from + n })
own_from k from zero n lt = absurd (omega arith)
own_from k from (suc count) zero lt = let e : from ≡ from + 0 = omega arith in ap (λ (i : ℕ). Some (record { «module» = k; index = i })) e
own_from k from (suc count) (suc n) lt =
    let e : suc from + n ≡ from + suc n = omega arith in
    own_from k (suc from) count n (omega arith) ∙ ap (λ (i : ℕ). Some (record { «module» = k; index = i })) e

pub own_there : (k count n : ℕ) → n < count → Some (record { «module» = k; index = n }) ≡ slice_get (own_items k 0 count) n
own_there k count n lt = let e : 0 + n ≡ n = omega arith in sym (own_from k 0 count n lt ∙ ap (λ (i : ℕ). Some (record { «module» = k; index = i })) e)

own_past_from : (k from count n : ℕ) → count ≤ n → slice_get (own_items k from count) n ≡ None
own_past_from k from zero n le = refl
own_past_from k from (suc count) zero le = absurd (omega arith)
own_past_from k from (suc count) (suc n) le = own_past_from k (suc from) count n (omega arith)

pub own_past : (k count n : ℕ) → count ≤ n → None ≡ slice_get (own_items k 0 count) n
own_past k count n le = sym (own_past_from k 0 count n le)

module _ (space : Space) (own : List Binding) where
  abbrev pub Rest : List Import → List Binding → List Binding
  Rest is bs = imported_items space is bs ++ own

  -- one import, by whether it is of the space
  one_import : (b : Bool) (i : Import) (is : List Import) (x : Binding) (bs : List Binding) → is_in space i ≡ b
      → imported_items space (i ∷ is) (x ∷ bs) ≡ cond b (x ∷ imported_items space is bs) (imported_items space is bs)
  one_import b i is x bs e = ap (λ (z : Bool). cond z (x ∷ imported_items space is bs) (imported_items space is bs)) e

  -- one import, whatever its space
  pub at_import : (is : List Import) (bs : List Binding) (n : ℕ) (i : Import) (x : Binding) (b : Bool) → n < length is → n < length bs → i ≡ get_or is n i → x ≡ get_or bs n x → b ≡ is_in space i
      → imported_items space (drop n is) (drop n bs) ≡ cond b (x ∷ imported_items space (drop (n + 1) is) (drop (n + 1) bs)) (imported_items space (drop (n + 1) is) (drop (n + 1) bs))
  at_import is bs n i x b l m f g e =
      ap (λ (z : List Import). imported_items space z (drop n bs)) (drop_more is n i l ∙ ap (λ (z : Import). z ∷ drop (n + 1) is) (sym f))
      ∙ ap (imported_items space (i ∷ drop (n + 1) is)) (drop_more bs n x m ∙ ap (λ (z : Binding). z ∷ drop (n + 1) bs) (sym g))
      ∙ one_import b i (drop (n + 1) is) x (drop (n + 1) bs) (sym e)

  -- it is the one that is sought
  pub here : (is : List Import) (bs : List Binding) (n : ℕ) (i : Import) (x : Binding) (left index : ℕ) → n < length is → n < length bs → i ≡ get_or is n i → x ≡ get_or bs n x → true ≡ is_in space i
      → left ≡ 0 → slice_get (Rest (drop n is) (drop n bs)) left ≡ slice_get (Rest is bs) index → Some x ≡ slice_get (Rest is bs) index
  here is bs n i x left index l m f g e z h =
      ap (λ (xs : List Binding). slice_get (xs ++ own) 0) (sym (at_import is bs n i x true l m f g e)) ∙ ap (slice_get (Rest (drop n is) (drop n bs))) (sym z) ∙ h

  less : (x : Binding) (xs : List Binding) (left : ℕ) → (left ≡ 0 → ⊥) → slice_get xs (left - 1) ≡ slice_get (x ∷ xs) left
  less x xs zero h = absurd (h refl)
  less x xs (suc n) h = let e : suc n - 1 ≡ n = omega arith in ap (slice_get xs) e

  -- it is passed
  pub passed : (is : List Import) (bs : List Binding) (n : ℕ) (i : Import) (x : Binding) (left index : ℕ) → n < length is → n < length bs → i ≡ get_or is n i → x ≡ get_or bs n x → true ≡ is_in space i
      → (left ≡ 0 → ⊥) → slice_get (Rest (drop n is) (drop n bs)) left ≡ slice_get (Rest is bs) index → slice_get (Rest (drop (n + 1) is) (drop (n + 1) bs)) (left - 1) ≡ slice_get (Rest is bs) index
  passed is bs n i x left index l m f g e z h =
      less x (Rest (drop (n + 1) is) (drop (n + 1) bs)) left z
      ∙ ap (λ (xs : List Binding). slice_get (xs ++ own) left) (sym (at_import is bs n i x true l m f g e)) ∙ h

  -- it is of another space
  pub other : (is : List Import) (bs : List Binding) (n : ℕ) (i : Import) (x : Binding) (left index : ℕ) → n < length is → n < length bs → i ≡ get_or is n i → x ≡ get_or bs n x → false ≡ is_in space i
      → slice_get (Rest (drop n is) (drop n bs)) left ≡ slice_get (Rest is bs) index → slice_get (Rest (drop (n + 1) is) (drop (n + 1) bs)) left ≡ slice_get (Rest is bs) index
  other is bs n i x left index l m f g e h =
      ap (λ (xs : List Binding). slice_get (xs ++ own) left) (sym (at_import is bs n i x false l m f g e)) ∙ h

  no_bindings : (is : List Import) → imported_items space is [] ≡ []
  no_bindings [] = refl
  no_bindings (i ∷ is) = refl

  -- no import is left
  pub at_end : (is : List Import) (bs : List Binding) (n left index : ℕ) → length is ≤ n → slice_get (Rest (drop n is) (drop n bs)) left ≡ slice_get (Rest is bs) index
      → slice_get own left ≡ slice_get (Rest is bs) index
  at_end is bs n left index le h = ap (λ (xs : List Import). slice_get (imported_items space xs (drop n bs) ++ own) left) (sym (drop_all n is le)) ∙ h

  pub at_last : (is : List Import) (bs : List Binding) (n left index : ℕ) → length bs ≤ n → slice_get (Rest (drop n is) (drop n bs)) left ≡ slice_get (Rest is bs) index
      → slice_get own left ≡ slice_get (Rest is bs) index
  at_last is bs n left index le h =
      ap (λ (xs : List Binding). slice_get (xs ++ own) left) (sym (no_bindings (drop n is)))
      ∙ ap (λ (xs : List Binding). slice_get (imported_items space (drop n is) xs ++ own) left) (sym (drop_all n bs le)) ∙ h

pub ruleset import_steps = (here, passed, other, at_end, at_last)

-- two spaces are one where a test says so
pub same_is : (s t : Space) → same_space s t ≡ true → s ≡ t
same_is spaces.Func spaces.Func e = refl
same_is spaces.Table spaces.Table e = refl
same_is spaces.Memory spaces.Memory e = refl
same_is spaces.Global spaces.Global e = refl
same_is _ _ e = absurd cc

pub same_self : (s : Space) → same_space s s ≡ true
same_self spaces.Func = refl
same_self spaces.Table = refl
same_self spaces.Memory = refl
same_self spaces.Global = refl
