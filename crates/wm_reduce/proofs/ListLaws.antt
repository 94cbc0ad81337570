-- Lists.
use Rattle.std.proofs.Common.{◌≡◌, ℕ, zero, suc, ◌+◌, ◌-◌, ◌^◌, ◌<◌, ◌≤◌, ◌/◌, ◌%◌, List, [], ◌∷◌, ◌++◌, length, take, drop, set, Option, Some, None, refl, sym, ap, ◌∙◌, append_assoc, arith}
use Rattle.std.specs.Prelude.{reverse, replicate, filter_map}
use Rattle.std.proofs.lemmas.List.{reverse-append, reverse-reverse, length-reverse, take_all, take-append-le, drop-append-le, take-append-drop, drop-drop, drop-set-lt, drop_all, length-set}
use Rattle.std.proofs.lemmas.List.Elements.{filter_map-append}
use Rattle.std.proofs.lemmas.Bool.{le-ltb}
use Rattle.std.proofs.Math.Nat.{pow-le-pow_right}
use Rattle.std.proofs.Math.Seq.{take-suc-set}
use Rattle.mc_nbt.specs.declared.value.Value.{Value}
use Rattle.wm_ast.specs.declared.module.Run.{Run}
use Rattle.wm_ast.specs.declared.module.ValType.{ValType}
use Rattle.wm_ast.specs.Step.{arity, top}
use Rattle.wm_ast.specs.Storage.{bytes_of}
use Rattle.wm_ast.specs.Store.{zero_of, overwritten}
use Rattle.wm_ast.specs.Types.{run_types}

module _ {A : Type 0} where
  reverse_cons : (x : A) (xs : List A) → reverse (x ∷ xs) ≡ reverse xs ++ x ∷ []
  reverse_cons x xs = reverse-append (x ∷ []) xs

  length_back : (xs : List A) → length (reverse xs) ≡ length xs
  length_back xs = length-reverse xs

  -- the lower ones of a stack, in a list that ends with its top
  lower : (n : ℕ) (ys : List A) → reverse (take (length ys - n) (reverse ys)) ≡ drop n ys
  lower zero ys = ap reverse (take_all (length ys - 0) (reverse ys) (let h = length_back ys in omega arith)) ∙ reverse-reverse ys
  lower (suc n) [] = let e : length {A = A} [] - suc n ≡ 0 = omega arith in ap (λ (k : ℕ). reverse (take k (reverse {A = A} []))) e
  lower (suc n) (y ∷ ys) =
      let e : length (y ∷ ys) - suc n ≡ length ys - n = omega arith in
      let fits : length ys - n ≤ length (reverse ys) = let h = length_back ys in omega arith in
      ap (λ (k : ℕ). reverse (take k (reverse (y ∷ ys)))) e ∙ ap (λ (l : List A). reverse (take (length ys - n) l)) (reverse_cons y ys)
      ∙ ap reverse (take-append-le (length ys - n) (reverse ys) (y ∷ []) fits) ∙ lower n ys

  -- the upper ones
  upper : (n : ℕ) (ys : List A) → drop (length ys - n) (reverse ys) ≡ reverse (take n ys)
  upper zero ys = let h = length_back ys in drop_all (length ys - 0) (reverse ys) (omega arith)
  upper (suc n) [] = let e : length {A = A} [] - suc n ≡ 0 = omega arith in ap (λ (k : ℕ). drop k (reverse {A = A} [])) e
  upper (suc n) (y ∷ ys) =
      let e : length (y ∷ ys) - suc n ≡ length ys - n = omega arith in
      let fits : length ys - n ≤ length (reverse ys) = let h = length_back ys in omega arith in
      ap (λ (k : ℕ). drop k (reverse (y ∷ ys))) e ∙ ap (λ (l : List A). drop (length ys - n) l) (reverse_cons y ys)
      ∙ drop-append-le (length ys - n) (reverse ys) (y ∷ []) fits ∙ ap (λ (l : List A). l ++ y ∷ []) (upper n ys)
      ∙ sym (reverse_cons y (take n ys))

  -- the same of a list and the stack that it shows
  pub lower_of : (n : ℕ) (xs : List A) → reverse (take (length xs - n) xs) ≡ drop n (reverse xs)
  lower_of n xs =
      let h = length_back xs in
      ap (λ (l : List A). reverse (take (length xs - n) l)) (sym (reverse-reverse xs))
      ∙ ap (λ (k : ℕ). reverse (take (k - n) (reverse (reverse xs)))) (sym h) ∙ lower n (reverse xs)

  pub upper_of : (n : ℕ) (xs : List A) → drop (length xs - n) xs ≡ reverse (take n (reverse xs))
  upper_of n xs =
      let h = length_back xs in
      ap (λ (l : List A). drop (length xs - n) l) (sym (reverse-reverse xs))
      ∙ ap (λ (k : ℕ). drop (k - n) (reverse (reverse xs))) (sym h) ∙ upper n (reverse xs)

-- one value that is taken
pub one_carried : (ty : Option ValType) (t : ValType) (v : Value) (vs ws under over : List Value) → ty ≡ Some t → ws ≡ v ∷ vs → over ≡ v ∷ under
    → (us : List Value) × (top (arity ty) ws ≡ Some us) × (over ≡ us ++ under)
one_carried ty t v vs ws under over e k o =
    (v ∷ [], ap (λ (x : Option ValType). top (arity x) ws) e ∙ ap (top 1) k ∙ rw (le-ltb (length (v ∷ vs)) 1 (omega arith)) refl, o)

-- Zeros.

pub zeros_of : (t : ValType) (v : Value) (n : ℕ) → zero_of t ≡ Some v → filter_map zero_of (replicate n t) ≡ replicate n v
zeros_of t v zero e = refl
zeros_of t v (suc n) e = rw e (ap (λ (l : List Value). v ∷ l) (zeros_of t v n e))

pub no_zeros : (t : ValType) (n : ℕ) → zero_of t ≡ None → filter_map zero_of (replicate n t) ≡ []
no_zeros t zero e = refl
no_zeros t (suc n) e = rw e (no_zeros t n e)

-- a run of locals more
pub zeros_run : (old new all : List Value) (r : Run) (rs : List Run) → new ≡ old ++ filter_map zero_of (replicate r.count r.ty)
    → old ++ filter_map zero_of (run_types (r ∷ rs)) ≡ all → new ++ filter_map zero_of (run_types rs) ≡ all
zeros_run old new all r rs e h =
    ap (λ (l : List Value). l ++ filter_map zero_of (run_types rs)) e
    ∙ append_assoc old (filter_map zero_of (replicate r.count r.ty)) (filter_map zero_of (run_types rs))
    ∙ ap (λ (l : List Value). old ++ l) (sym (filter_map-append zero_of (replicate r.count r.ty) (run_types rs))) ∙ h

-- Bytes.

pub bytes_of_length : (k n : ℕ) → length (bytes_of k n) ≡ k
bytes_of_length zero n = refl
bytes_of_length (suc k) n = let h = bytes_of_length k (n / 256) in omega arith

-- a number of at most seven bytes
pub seven_bytes : (n r : ℕ) → n ≤ 7 → r < 256 ^ n → r < 2 ^ 56
seven_bytes n r h b =
    let k : 256 ^ n ≤ 256 ^ 7 = pow-le-pow_right {n = 256} (omega arith) {i = n} {j = 7} h in omega arith

-- Bytes that are written one after the other.

pub record Written (bytes old : List ℕ) (at width i rest number : ℕ) : Type 0 where
  pub size : length bytes ≡ length old
  pub parts : take (at + i) bytes ++ (bytes_of (width - i) rest ++ drop (at + width) old)
      ≡ take at old ++ (bytes_of width number ++ drop (at + width) old)
  pub others : drop (at + i) bytes ≡ drop (at + i) old

pub one_written : (bytes old : List ℕ) (at width i rest number : ℕ) → at + width ≤ length old → i < width
    → Written bytes old at width i rest number → Written (set bytes (at + i) (rest % 256)) old at width (i + 1) (rest / 256) number
one_written bytes old at width i rest number fits below w =
    let here : at + i < length bytes = let h = w.size in omega arith in
    let one : width - i ≡ suc (width - (i + 1)) = omega arith in
    let tail = drop (at + width) old in
    let bs = bytes_of (width - (i + 1)) (rest / 256) in
    let step : take (suc (at + i)) (set bytes (at + i) (rest % 256)) ≡ take (at + i) bytes ++ (rest % 256) ∷ [] = take-suc-set bytes (at + i) (rest % 256) here in
    let place : at + (i + 1) ≡ suc (at + i) = omega arith in
    record {
      size = length-set bytes (at + i) (rest % 256) ∙ w.size;
      parts =
          ap (λ (k : ℕ). take k (set bytes (at + i) (rest % 256)) ++ (bs ++ tail)) place
          ∙ ap (λ (l : List ℕ). l ++ (bs ++ tail)) step ∙ append_assoc (take (at + i) bytes) ((rest % 256) ∷ []) (bs ++ tail)
          ∙ ap (λ (k : ℕ). take (at + i) bytes ++ (bytes_of k rest ++ tail)) (sym one) ∙ w.parts;
      others =
          ap (λ (k : ℕ). drop k (set bytes (at + i) (rest % 256))) place
          ∙ drop-set-lt (suc (at + i)) bytes (at + i) (rest % 256) (omega arith)
          ∙ ap (λ (k : ℕ). drop k bytes) (let e : suc (at + i) ≡ (at + i) + 1 = omega arith in e) ∙ sym (drop-drop 1 (at + i) bytes)
          ∙ ap (drop 1) w.others ∙ drop-drop 1 (at + i) old ∙ ap (λ (k : ℕ). drop k old) (let e : (at + i) + 1 ≡ at + (i + 1) = omega arith in e);
    }

pub all_written : (bytes old : List ℕ) (at width i rest number : ℕ) → i ≡ width → Written bytes old at width i rest number
    → bytes ≡ overwritten old at (bytes_of width number)
all_written bytes old at width i rest number e w =
    let n = bytes_of_length width number in
    let none : width - i ≡ 0 = omega arith in
    sym (take-append-drop (at + i) bytes) ∙ ap (λ (l : List ℕ). take (at + i) bytes ++ l) (w.others ∙ ap (λ (k : ℕ). drop (at + k) old) e)
    ∙ ap (λ (k : ℕ). take (at + i) bytes ++ (bytes_of k rest ++ drop (at + width) old)) (sym none) ∙ w.parts
    ∙ ap (λ (k : ℕ). take at old ++ (bytes_of width number ++ drop (at + k) old)) (sym n)
