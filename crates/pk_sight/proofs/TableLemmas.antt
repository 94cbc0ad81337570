-- Lists that are compared element by element with the values of a function.
use Rattle.std.proofs.Common.{◌≡◌, ℕ, zero, suc, ◌+◌, ◌<◌, List, [], ◌∷◌, ◌++◌, length, map, take, Bool, true, false, refl, sym, ap, ◌∙◌, arith, add-one}
use Rattle.std.specs.Prelude.{◌&&◌, ◌↔◌, ℤ, Option, Some, get_or, slice_get}
use Rattle.std.proofs.Math.Seq.{take-length, take-suc}
use Rattle.std.proofs.Math.ListN.{length-append}
use Rattle.std.proofs.lemmas.List.{length-map, length-take-le, map-append}
use Rattle.mc_nbt.specs.Tree.{Tree, Items, int, items, of_items, list, list_of}
use Rattle.mc_nbt.proofs.TreeLemmas.{of_items-items}
use Rattle.cc_line.specs.Table.{values_below}
use Rattle.cc_line.proofs.TableLemmas.{value_got, values_long, values_next}

-- two lists of one length with one more element each are the same exactly where the lists are and the elements are
parts_same : {A : Type 0} (xs ys : List A) (x y : A) → length xs ≡ length ys → xs ++ (x ∷ []) ≡ ys ++ (y ∷ []) → (xs ≡ ys) × (x ≡ y)
parts_same [] [] x y l e = (refl, cc)
parts_same [] (v ∷ ys) x y l e = absurd (omega arith)
parts_same (u ∷ xs) [] x y l e = absurd (omega arith)
parts_same (u ∷ xs) (v ∷ ys) x y l e =
    let first : u ≡ v = cc in
    let (same, last) = parts_same xs ys x y (omega arith) (cc) in
    (cc, last)

both : (b c : Bool) → b && c ≡ true → (b ≡ true) × (c ≡ true)
both true c e = (refl, e)
both false c e = absurd cc

-- what was the same so far, and the next element
module _ {A : Type 0} (g : A → Tree) (f : ℕ → Tree) (n : ℕ) (xs : List A) (x : A) (within : n < length xs) (b c : Bool) (so_far : (b ≡ true) ↔ (map g (take n xs) ≡ values_below f n)) (one : (c ≡ true) ↔ (g (get_or xs n x) ≡ f n)) where
  longer : map g (take (suc n) xs) ≡ map g (take n xs) ++ (g (get_or xs n x) ∷ [])
  longer = ap (map g) (take-suc xs n x within) ∙ map-append g (take n xs) (get_or xs n x ∷ [])

  pub next_same : (b && c ≡ true) ↔ (map g (take (n + 1) xs) ≡ values_below f (n + 1))
  next_same = (go, back)
    where
      go : b && c ≡ true → map g (take (n + 1) xs) ≡ values_below f (n + 1)
      go e =
          let (first, second) = both b c e in
          ap (λ k. map g (take k xs)) (add-one n)
          ∙ (longer ∙ (ap (λ l. l ++ (g (get_or xs n x) ∷ [])) (so_far.0 first) ∙ (ap (λ t. values_below f n ++ (t ∷ [])) (one.0 second) ∙ (sym (values_next f n) ∙ ap (values_below f) (sym (add-one n))))))

      back : map g (take (n + 1) xs) ≡ values_below f (n + 1) → b && c ≡ true
      back e =
          let whole : map g (take n xs) ++ (g (get_or xs n x) ∷ []) ≡ values_below f n ++ (f n ∷ []) = sym longer ∙ (ap (λ k. map g (take k xs)) (sym (add-one n)) ∙ (e ∙ (ap (values_below f) (add-one n) ∙ values_next f n))) in
          let long : length (map g (take n xs)) ≡ n = length-map (take n xs) g ∙ length-take-le n xs (omega arith) in
          let (first, second) = parts_same (map g (take n xs)) (values_below f n) (g (get_or xs n x)) (f n) (long ∙ sym (values_long f n)) whole in
          ap (λ d. d && c) (so_far.1 first) ∙ one.1 second

-- lists of trees of other lengths aren't the same
pub other_length : {A : Type 0} (g : A → Tree) (f : ℕ → Tree) (n : ℕ) (xs : List A) → (length xs ≡ n → ⊥) → map g xs ≡ values_below f n → ⊥
other_length g f n xs d e = d (sym (length-map xs g) ∙ (ap (λ (l : List Tree). length l) e ∙ values_long f n))

-- lists that are told by their elements
pub told_by : (l : Items) (ts us : List Tree) (b : Bool) → l ≡ items ts → (b ≡ true) ↔ (ts ≡ us) → (b ≡ true) ↔ (l ≡ items us)
told_by l ts us b e h = (λ t. e ∙ ap items (h.0 t), λ s. h.1 (sym (of_items-items ts) ∙ (ap of_items (sym e ∙ s) ∙ of_items-items us)))

pub told_list : (t : Tree) (l : Items) (ts : List Tree) (b : Bool) → t ≡ list l → (b ≡ true) ↔ (l ≡ items ts) → (b ≡ true) ↔ (t ≡ list_of ts)
told_list t l ts b e h = (λ x. e ∙ ap list (h.0 x), λ s. h.1 (let same : list l ≡ list (items ts) = sym e ∙ s in cc))

-- ints are no rows
pub no_rows : (l : Items) (zs : List ℤ) (f : ℕ → List Tree) (n : ℕ) → 0 < n → l ≡ items (map int zs) → l ≡ items (values_below (λ i. list_of (f i)) n) → ⊥
no_rows l [] f n few e s = absurd (let none : 0 ≡ n = ap (λ (ts : List Tree). length ts) (told s) ∙ values_long (λ i. list_of (f i)) n in omega arith)
  where
    told : l ≡ items (values_below (λ i. list_of (f i)) n) → [] ≡ values_below (λ i. list_of (f i)) n
    told s = sym (of_items-items []) ∙ (ap of_items (sym e ∙ s) ∙ of_items-items (values_below (λ i. list_of (f i)) n))
no_rows l (z ∷ zs) f n few e s =
    let same : map int (z ∷ zs) ≡ values_below (λ i. list_of (f i)) n = sym (of_items-items (map int (z ∷ zs))) ∙ (ap of_items (sym e ∙ s) ∙ of_items-items (values_below (λ i. list_of (f i)) n)) in
    let first : Some (int z) ≡ Some (list_of (f 0)) = ap (λ (ts : List Tree). slice_get ts 0) same ∙ value_got (λ i. list_of (f i)) n 0 few in
    cc

-- what was the same up to the end
pub whole_same : {A : Type 0} (g : A → Tree) (f : ℕ → Tree) (k n : ℕ) (xs : List A) (b : Bool) → k ≡ n → length xs ≡ n → (b ≡ true) ↔ (map g (take k xs) ≡ values_below f k) → (b ≡ true) ↔ (map g xs ≡ values_below f n)
whole_same g f k n xs b e l h =
    let all : take k xs ≡ xs = ap (λ i. take i xs) (e ∙ sym l) ∙ take-length xs in
    (λ t. ap (map g) (sym all) ∙ (h.0 t ∙ ap (values_below f) e), λ s. h.1 (ap (map g) all ∙ (s ∙ ap (values_below f) (sym e))))

-- what stands somewhere is a tree exactly where it is that tree
pub stands_there : (t u : Tree) (o : Option Tree) (b : Bool) → (b ≡ true) ↔ (t ≡ u) → Some t ≡ o → (b ≡ true) ↔ (o ≡ Some u)
stands_there t u o b h e = (λ x. sym e ∙ ap Some (h.0 x), λ s. h.1 (let same : Some t ≡ Some u = e ∙ s in cc))
