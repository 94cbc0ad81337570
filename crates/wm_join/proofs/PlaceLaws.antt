-- Where the items of one list stand among those of all.
use Rattle.std.proofs.Common.{◌≡◌, ℕ, zero, suc, ◌+◌, ◌<◌, ◌≤◌, List, [], ◌∷◌, length, take, drop, get_or, Bool, true, false, ltb, cond, Some, refl, sym, ap, ap₂, ◌∙◌, arith}
use Rattle.std.specs.Prelude.{slice_get}
use Rattle.std.proofs.lemmas.List.{at_drop_more, drop_all}
use Rattle.wm_match.specs.declared.library.Binding.{Binding}
use Rattle.wm_join.specs.declared.place.Place.{Place}
use Rattle.wm_join.specs.Numbering.{total, number}
use Rattle.wm_join.specs.steps.Places.{IsPlace, number_in, binding_number}

-- Sums.

pub total_more : (xs : List ℕ) (i : ℕ) → i < length xs → total (drop i xs) ≡ get_or xs i 0 + total (drop (i + 1) xs)
total_more xs i lt = at_drop_more total xs i 0 lt

pub total_all : (xs : List ℕ) (i : ℕ) → length xs ≤ i → total (drop i xs) ≡ 0
total_all xs i le = ap total (drop_all i xs le)

-- lists before one of them, and that one
pub total_before : (xs : List ℕ) (k c : ℕ) → slice_get xs k ≡ Some c → total (take k xs) + c ≤ total xs
total_before [] k c e = absurd cc
total_before (x ∷ xs) zero c e = let w : Some x ≡ Some c = e in let s : x ≡ c = cc in omega arith
total_before (x ∷ xs) (suc k) c e = let i = total_before xs k c e in omega arith

pub total_take : (xs : List ℕ) (k : ℕ) → total (take k xs) ≤ total xs
total_take [] zero = omega arith
total_take [] (suc k) = omega arith
total_take (x ∷ xs) zero = omega arith
total_take (x ∷ xs) (suc k) = let i = total_take xs k in omega arith

-- Numbers.

first_list : (b : Bool) (n m : ℕ) → cond b n m ≡ cond b (0 + n) m
first_list true n m = omega arith
first_list false n m = refl

later_list : (b : Bool) (size first n all : ℕ) → size + cond b (first + n) all ≡ cond b ((size + first) + n) (size + all)
later_list true size first n all = omega arith
later_list false size first n all = refl

-- the number of an item by the place of its list
number_is : (sizes : List ℕ) (k n c : ℕ) → slice_get sizes k ≡ Some c → number sizes k n ≡ cond (ltb n c) (total (take k sizes) + n) (total sizes)
number_is [] k n c e = absurd cc
number_is (size ∷ sizes) zero n c e =
    let w : Some size ≡ Some c = e in
    let s : size ≡ c = cc in
    first_list (ltb n size) n (size + total sizes) ∙ ap (λ (z : ℕ). cond (ltb n z) (0 + n) (size + total sizes)) s
number_is (size ∷ sizes) (suc k) n c e =
    ap (λ (z : ℕ). size + z) (number_is sizes k n c e) ∙ later_list (ltb n c) size (total (take k sizes)) n (total sizes)

pub in_place : (sizes : List ℕ) (k n : ℕ) (p : Place) → IsPlace sizes k p → number_in p n ≡ number sizes k n
in_place sizes k n p h = ap₂ (λ (x y : ℕ). cond (ltb n p.count) (x + n) y) h.first h.all ∙ sym (number_is sizes k n p.count h.count)

-- there is no list k
number_past : (sizes : List ℕ) (k n : ℕ) → length sizes ≤ k → number sizes k n ≡ total sizes
number_past [] k n le = refl
number_past (size ∷ sizes) zero n le = absurd (omega arith)
number_past (size ∷ sizes) (suc k) n le = ap (λ (z : ℕ). size + z) (number_past sizes k n (omega arith))

pub number_here : (sizes : List ℕ) (b : Binding) (p : Place) → IsPlace sizes b.module p → number_in p b.index ≡ binding_number sizes b
number_here sizes b p h = in_place sizes b.module b.index p h

pub number_gone : (sizes : List ℕ) (b : Binding) → length sizes ≤ b.module → total sizes ≡ binding_number sizes b
number_gone sizes b le = sym (number_past sizes b.module b.index le)
