-- What the names of pieces tell, and the last one of a list.
use Rattle.std.proofs.Common.{◌≡◌, ℕ, zero, suc, ◌+◌, ◌*◌, ◌<◌, ◌⊎◌, inl, inr, List, [], ◌∷◌, ◌++◌, Option, Some, None, refl, ap, ap₂, codes, arith}
use Rattle.std.specs.Prelude.{unsigned_abs}
use Rattle.mc_nbt.specs.Tree.{Tree, int, string, list, compound, child, key}
use Rattle.cc_line.specs.Key.{body_piece, shared_piece, id_tree}
use Rattle.cc_pieces.specs.Dividing.{dividing_piece}
use Rattle.cc_pieces.specs.Fetching.{first_fetch, most_fetches}
use Rattle.cc_pieces.specs.Restoring.{first_restore}

-- ---- trees

abbrev number_in : Tree → ℕ
number_in (int z) = unsigned_abs z
number_in (string b) = 0
number_in (list ts) = 0
number_in (compound fs) = 0

abbrev number_of : Option Tree → ℕ
number_of None = 0
number_of (Some t) = number_in t

-- the names of pieces of functions tell function and number, whatever these are
pub func_told : (f g i j : ℕ) → id_tree (body_piece f i) ≡ id_tree (body_piece g j) → f ≡ g
func_told f g i j e = ap (λ (t : Tree). number_of (child t (key (codes "i")))) e

pub index_told : (f g i j : ℕ) → id_tree (body_piece f i) ≡ id_tree (body_piece g j) → i ≡ j
index_told f g i j e = ap (λ (t : Tree). number_of (child t (key (codes "j")))) e

shared_told : (i j : ℕ) → id_tree (shared_piece i) ≡ id_tree (shared_piece j) → i ≡ j
shared_told i j e = ap (λ (t : Tree). number_of (child t (key (codes "j")))) e

-- ---- pieces

pub func_same : (f g i j : ℕ) → body_piece f i ≡ body_piece g j → f ≡ g
func_same f g i j e = func_told f g i j (ap id_tree e)

pub index_same : (f g i j : ℕ) → body_piece f i ≡ body_piece g j → i ≡ j
index_same f g i j e = index_told f g i j (ap id_tree e)

pub shared_same : (i j : ℕ) → shared_piece i ≡ shared_piece j → i ≡ j
shared_same i j e = shared_told i j (ap id_tree e)

-- the piece of a division: by whether turns are left
pub dividing_same : (f g index left j : ℕ) → dividing_piece f index left ≡ body_piece g j
    → (f ≡ g) × (((left ≡ 0) × (first_restore + index ≡ j)) ⊎ ((0 < left) × (first_fetch + most_fetches * index ≡ j)))
dividing_same f g index zero j e = (func_same f g (first_restore + index) j e, inl (refl, index_same f g (first_restore + index) j e))
dividing_same f g index (suc left) j e =
    let h : first_fetch + (most_fetches * index + 0) ≡ j = index_same f g (first_fetch + (most_fetches * index + 0)) j e in
    (func_same f g (first_fetch + (most_fetches * index + 0)) j e, inr (omega arith, omega arith))

pub dividing_no_shared : (f index left j : ℕ) → dividing_piece f index left ≡ shared_piece j → ⊥
dividing_no_shared f index zero j e = cc
dividing_no_shared f index (suc left) j e = cc

-- ---- lists with one more at the end

pub last_told : {A : Type 0} (xs ys : List A) (x y : A) → xs ++ (x ∷ []) ≡ ys ++ (y ∷ []) → (xs ≡ ys) × (x ≡ y)
last_told [] [] x y e = (refl, cc)
last_told [] (z ∷ []) x y e = absurd cc
last_told [] (z ∷ w ∷ ys) x y e = absurd cc
last_told (z ∷ []) [] x y e = absurd cc
last_told (z ∷ w ∷ xs) [] x y e = absurd cc
last_told (z ∷ xs) (w ∷ ys) x y e =
    let first : z ≡ w = cc in
    let rest : xs ++ (x ∷ []) ≡ ys ++ (y ∷ []) = cc in
    let more = last_told xs ys x y rest in
    (ap₂ (λ a l. a ∷ l) first more.0, more.1)

pub not_empty : {A : Type 0} (xs : List A) (x : A) → [] ≡ xs ++ (x ∷ []) → ⊥
not_empty [] x e = cc
not_empty (y ∷ xs) x e = cc
