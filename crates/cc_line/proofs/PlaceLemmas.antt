-- Scores that are places: what a write of one leaves of the others.
use Rattle.std.proofs.Common.{◌≡◌, ℕ, zero, suc, ◌+◌, ◌-◌, ◌<◌, ◌≤◌, ◌^◌, List, [], ◌∷◌, ◌++◌, length, take, drop, Option, Some, Bool, true, false, refl, sym, ap, ◌∙◌, arith, ◌⊎◌, inl, inr}
use Rattle.std.specs.Prelude.{ℤ, pos, not, if◌then◌else◌, nat_lt, slice_set, slice_index_or}
use Rattle.std.specs.Str.{bytes_eq}
use Rattle.std.proofs.lemmas.Fmt.{decimal_by_steps, decimal_injective}
use Rattle.std.proofs.lemmas.Bool.{le-leb, lt-ltb, ltb-true, ltb-false}
use Rattle.std.proofs.lemmas.Slice.Eq.{bytes_eq-Decides}
use Rattle.mc_nbt.proofs.TreeLemmas.{bytes_refl}
use Rattle.mc_cmd.specs.Form.{Text}
use Rattle.cc_line.specs.Sight.{with_holder}
use Rattle.cc_line.specs.Place.{score_places, place_name, is_place_name, is_scratch, shown, in_score, in_list, home}

-- ---- names

pub place_is : (n : ℕ) → n < 2 ^ 31 → is_place_name (place_name n) ≡ true
place_is n h = decimal_by_steps (λ k ds. is_place_name (35 ∷ ds) ≡ true) digit (λ k ds big f. longer ds _ f) n (omega arith)
  where
    digit : (n : ℕ) → n < 10 → is_place_name (35 ∷ (48 + n) ∷ []) ≡ true
    digit n lt = rw (le-leb 48 (48 + n) (omega arith), le-leb (48 + n) 57 (omega arith)) refl

    longer : (ds : Text) (x : ℕ) → is_place_name (35 ∷ ds) ≡ true → is_place_name (35 ∷ (ds ++ x ∷ [])) ≡ true
    longer [] x h = absurd cc
    longer (d ∷ ds) x h = h

bytes_differ : (k l : Text) → (k ≡ l → ⊥) → bytes_eq k l ≡ false
bytes_differ k l n = go (bytes_eq k l) refl
  where
    go : (b : Bool) → bytes_eq k l ≡ b → b ≡ false
    go true e = absurd (n ((bytes_eq-Decides k l).0 e))
    go false e = refl

-- a place and a scratch score
pub name_apart : (i : ℕ) (h : Text) → i < 2 ^ 31 → is_scratch h ≡ true → bytes_eq (place_name i) h ≡ false
name_apart i h l s = bytes_differ (place_name i) h (λ e. let x : is_place_name h ≡ true = ap is_place_name (sym e) ∙ place_is i l in let y : not (is_place_name h) ≡ not true = ap not x in let z : true ≡ false = sym s ∙ y in cc)

pub apart_name : (i : ℕ) (h : Text) → i < 2 ^ 31 → is_scratch h ≡ true → bytes_eq h (place_name i) ≡ false
apart_name i h l s = bytes_differ h (place_name i) (λ e. let x : is_place_name h ≡ true = ap is_place_name e ∙ place_is i l in let y : not (is_place_name h) ≡ not true = ap not x in let z : true ≡ false = sym s ∙ y in cc)

abbrev behind_one : Text → Text
behind_one [] = []
behind_one (b ∷ t) = t

-- two places
pub names_same : (i j : ℕ) → i < 2 ^ 31 → j < 2 ^ 31 → place_name i ≡ place_name j → i ≡ j
names_same i j h l e = decimal_injective i j (omega arith) (omega arith) (ap behind_one e)

pub names_differ : (i j : ℕ) → i < 2 ^ 31 → j < 2 ^ 31 → (i ≡ j → ⊥) → bytes_eq (place_name i) (place_name j) ≡ false
names_differ i j h l n = bytes_differ (place_name i) (place_name j) (λ e. n (names_same i j h l e))

-- ---- what is shown

pub shown_scratch : (f : Text → Option ℤ) (k : ℕ) (zs : List ℤ) (h : Text) → k + length zs ≤ 2 ^ 31 → is_scratch h ≡ true → shown f k zs h ≡ f h
shown_scratch f k [] h l s = refl
shown_scratch f k (z ∷ zs) h l s = ap (λ b. if b then Some z else shown f (suc k) zs h) (name_apart k h (omega arith) s) ∙ shown_scratch f (suc k) zs h (omega arith) s

pub shown_at : (f : Text → Option ℤ) (k : ℕ) (zs : List ℤ) (i : ℕ) → k + length zs ≤ 2 ^ 31 → i < length zs → shown f k zs (place_name (k + i)) ≡ Some (slice_index_or zs i (pos 0))
shown_at f k [] i l h = absurd (omega arith)
shown_at f k (z ∷ zs) zero l h = ap (λ j. shown f k (z ∷ zs) (place_name j)) (let x : k + 0 ≡ k = omega arith in x) ∙ ap (λ b. if b then Some z else shown f (suc k) zs (place_name k)) (bytes_refl (place_name k))
shown_at f k (z ∷ zs) (suc i) l h =
    ap (λ b. if b then Some z else shown f (suc k) zs (place_name (k + suc i))) (names_differ k (k + suc i) (omega arith) (omega arith) (λ e. omega arith))
    ∙ ap (λ j. shown f (suc k) zs (place_name j)) (let x : k + suc i ≡ suc k + i = omega arith in x) ∙ shown_at f (suc k) zs i (omega arith) (omega arith)

-- a place is written
pub shown_put : (f : Text → Option ℤ) (k : ℕ) (zs : List ℤ) (i : ℕ) (z : ℤ) (j : Text) → k + length zs ≤ 2 ^ 31 → i < length zs → with_holder (shown f k zs) (place_name (k + i)) z j ≡ shown f k (slice_set zs i z) j
shown_put f k [] i z j l h = absurd (omega arith)
shown_put f k (y ∷ zs) zero z j l h =
    ap (λ q. with_holder (shown f k (y ∷ zs)) (place_name q) z j) (let x : k + 0 ≡ k = omega arith in x) ∙ go (bytes_eq (place_name k) j)
  where
    go : (b : Bool) → (if b then Some z else (if b then Some y else shown f (suc k) zs j)) ≡ (if b then Some z else shown f (suc k) zs j)
    go true = refl
    go false = refl
shown_put f k (y ∷ zs) (suc i) z j l h =
    go (bytes_eq (place_name k) j) refl (ap (λ q. with_holder (shown f (suc k) zs) (place_name q) z j) (let x : k + suc i ≡ suc k + i = omega arith in x) ∙ shown_put f (suc k) zs i z j (omega arith) (omega arith))
  where
    go : (b : Bool) → bytes_eq (place_name k) j ≡ b → with_holder (shown f (suc k) zs) (place_name (k + suc i)) z j ≡ shown f (suc k) (slice_set zs i z) j
        → (if bytes_eq (place_name (k + suc i)) j then Some z else (if b then Some y else shown f (suc k) zs j)) ≡ (if b then Some y else shown f (suc k) (slice_set zs i z) j)
    go true e ih =
        let same : place_name k ≡ j = (bytes_eq-Decides (place_name k) j).0 e in
        ap (λ q. if q then Some z else Some y) (ap (bytes_eq (place_name (k + suc i))) (sym same) ∙ names_differ (k + suc i) k (omega arith) (omega arith) (λ x. omega arith))
    go false e ih = ih

-- a scratch score is written
pub shown_keep : (f : Text → Option ℤ) (k : ℕ) (zs : List ℤ) (h : Text) (z : ℤ) (j : Text) → k + length zs ≤ 2 ^ 31 → is_scratch h ≡ true → with_holder (shown f k zs) h z j ≡ shown (with_holder f h z) k zs j
shown_keep f k [] h z j l s = refl
shown_keep f k (y ∷ zs) h z j l s = go (bytes_eq (place_name k) j) refl (shown_keep f (suc k) zs h z j (omega arith) s)
  where
    go : (b : Bool) → bytes_eq (place_name k) j ≡ b → with_holder (shown f (suc k) zs) h z j ≡ shown (with_holder f h z) (suc k) zs j
        → (if bytes_eq h j then Some z else (if b then Some y else shown f (suc k) zs j)) ≡ (if b then Some y else shown (with_holder f h z) (suc k) zs j)
    go true e ih =
        let same : place_name k ≡ j = (bytes_eq-Decides (place_name k) j).0 e in
        ap (λ q. if q then Some z else Some y) (ap (bytes_eq h) (sym same) ∙ apart_name k h (omega arith) s)
    go false e ih = ih

-- one more place
pub shown_more : (f : Text → Option ℤ) (k : ℕ) (zs : List ℤ) (z : ℤ) (j : Text) → k + length zs < 2 ^ 31 → with_holder (shown f k zs) (place_name (k + length zs)) z j ≡ shown f k (zs ++ z ∷ []) j
shown_more f k [] z j l = ap (λ q. if bytes_eq (place_name q) j then Some z else f j) (let x : k + 0 ≡ k = omega arith in x)
shown_more f k (y ∷ zs) z j l =
    go (bytes_eq (place_name k) j) refl (ap (λ q. with_holder (shown f (suc k) zs) (place_name q) z j) (let x : k + suc (length zs) ≡ suc k + length zs = omega arith in x) ∙ shown_more f (suc k) zs z j (omega arith))
  where
    go : (b : Bool) → bytes_eq (place_name k) j ≡ b → with_holder (shown f (suc k) zs) (place_name (k + suc (length zs))) z j ≡ shown f (suc k) (zs ++ z ∷ []) j
        → (if bytes_eq (place_name (k + suc (length zs))) j then Some z else (if b then Some y else shown f (suc k) zs j)) ≡ (if b then Some y else shown f (suc k) (zs ++ z ∷ []) j)
    go true e ih =
        let same : place_name k ≡ j = (bytes_eq-Decides (place_name k) j).0 e in
        ap (λ q. if q then Some z else Some y) (ap (bytes_eq (place_name (k + suc (length zs)))) (sym same) ∙ names_differ (k + suc (length zs)) k (omega arith) (omega arith) (λ x. omega arith))
    go false e ih = ih

-- ---- the places that are scores, and the list

pub take_set_in : (n : ℕ) (zs : List ℤ) (i : ℕ) (z : ℤ) → i < n → take n (slice_set zs i z) ≡ slice_set (take n zs) i z
take_set_in zero zs i z h = absurd (omega arith)
take_set_in (suc n) [] i z h = refl
take_set_in (suc n) (y ∷ zs) zero z h = refl
take_set_in (suc n) (y ∷ zs) (suc i) z h = ap (λ l. y ∷ l) (take_set_in n zs i z (omega arith))

pub drop_set_in : (n : ℕ) (zs : List ℤ) (i : ℕ) (z : ℤ) → i < n → drop n (slice_set zs i z) ≡ drop n zs
drop_set_in zero zs i z h = absurd (omega arith)
drop_set_in (suc n) [] i z h = refl
drop_set_in (suc n) (y ∷ zs) zero z h = refl
drop_set_in (suc n) (y ∷ zs) (suc i) z h = drop_set_in n zs i z (omega arith)

pub take_set_out : (n : ℕ) (zs : List ℤ) (i : ℕ) (z : ℤ) → n ≤ i → take n (slice_set zs i z) ≡ take n zs
take_set_out zero zs i z h = refl
take_set_out (suc n) [] i z h = refl
take_set_out (suc n) (y ∷ zs) zero z h = absurd (omega arith)
take_set_out (suc n) (y ∷ zs) (suc i) z h = ap (λ l. y ∷ l) (take_set_out n zs i z (omega arith))

pub drop_set_out : (n : ℕ) (zs : List ℤ) (i : ℕ) (z : ℤ) → n ≤ i → drop n (slice_set zs i z) ≡ slice_set (drop n zs) (i - n) z
drop_set_out zero zs i z h = ap (λ k. slice_set zs k z) (let x : i ≡ i - 0 = omega arith in x)
drop_set_out (suc n) [] i z h = refl
drop_set_out (suc n) (y ∷ zs) zero z h = absurd (omega arith)
drop_set_out (suc n) (y ∷ zs) (suc i) z h = drop_set_out n zs i z (omega arith) ∙ ap (λ k. slice_set (drop n zs) k z) (let x : i - n ≡ suc i - suc n = omega arith in x)

pub take_get : (n : ℕ) (zs : List ℤ) (i : ℕ) → i < n → slice_index_or (take n zs) i (pos 0) ≡ slice_index_or zs i (pos 0)
take_get zero zs i h = absurd (omega arith)
take_get (suc n) [] i h = refl
take_get (suc n) (y ∷ zs) zero h = refl
take_get (suc n) (y ∷ zs) (suc i) h = take_get n zs i (omega arith)

pub drop_get : (n : ℕ) (zs : List ℤ) (i : ℕ) → n ≤ i → slice_index_or (drop n zs) (i - n) (pos 0) ≡ slice_index_or zs i (pos 0)
drop_get zero zs i h = ap (λ k. slice_index_or zs k (pos 0)) (let x : i - 0 ≡ i = omega arith in x)
drop_get (suc n) [] i h = refl
drop_get (suc n) (y ∷ zs) zero h = absurd (omega arith)
drop_get (suc n) (y ∷ zs) (suc i) h = ap (λ k. slice_index_or (drop n zs) k (pos 0)) (let x : suc i - suc n ≡ i - n = omega arith in x) ∙ drop_get n zs i (omega arith)

pub take_length : (n : ℕ) (zs : List ℤ) (i : ℕ) → i < n → i < length zs → i < length (take n zs)
take_length zero zs i h l = absurd (omega arith)
take_length (suc n) [] i h l = absurd (omega arith)
take_length (suc n) (y ∷ zs) zero h l = let x : 0 < suc (length (take n zs)) = omega arith in x
take_length (suc n) (y ∷ zs) (suc i) h l = let x = take_length n zs i (omega arith) (omega arith) in let y : suc i < suc (length (take n zs)) = omega arith in y

pub take_most : (n : ℕ) (zs : List ℤ) → length (take n zs) ≤ n
take_most zero zs = omega arith
take_most (suc n) [] = omega arith
take_most (suc n) (y ∷ zs) = let x = take_most n zs in omega arith

pub drop_length : (n : ℕ) (zs : List ℤ) (i : ℕ) → n ≤ i → i < length zs → i - n < length (drop n zs)
drop_length zero zs i h l = let x : i - 0 < length zs = omega arith in x
drop_length (suc n) [] i h l = absurd (omega arith)
drop_length (suc n) (y ∷ zs) zero h l = absurd (omega arith)
drop_length (suc n) (y ∷ zs) (suc i) h l = let x = drop_length n zs i (omega arith) (omega arith) in let y : suc i - suc n < length (drop n zs) = omega arith in y

pub take_all : (n : ℕ) (zs : List ℤ) → length zs ≤ n → take n zs ≡ zs
take_all zero [] h = refl
take_all zero (y ∷ zs) h = absurd (omega arith)
take_all (suc n) [] h = refl
take_all (suc n) (y ∷ zs) h = ap (λ l. y ∷ l) (take_all n zs (omega arith))

pub drop_all : (n : ℕ) (zs : List ℤ) → length zs ≤ n → drop n zs ≡ []
drop_all zero [] h = refl
drop_all zero (y ∷ zs) h = absurd (omega arith)
drop_all (suc n) [] h = refl
drop_all (suc n) (y ∷ zs) h = drop_all n zs (omega arith)

pub take_append : (n : ℕ) (xs ys : List ℤ) → length xs ≡ n → take n (xs ++ ys) ≡ xs
take_append zero [] ys h = refl
take_append zero (x ∷ xs) ys h = absurd (omega arith)
take_append (suc n) [] ys h = absurd (omega arith)
take_append (suc n) (x ∷ xs) ys h = ap (λ l. x ∷ l) (take_append n xs ys (omega arith))

pub drop_append : (n : ℕ) (xs ys : List ℤ) → length xs ≡ n → drop n (xs ++ ys) ≡ ys
drop_append zero [] ys h = refl
drop_append zero (x ∷ xs) ys h = absurd (omega arith)
drop_append (suc n) [] ys h = absurd (omega arith)
drop_append (suc n) (x ∷ xs) ys h = drop_append n xs ys (omega arith)

pub take_full : (n : ℕ) (zs : List ℤ) → n ≤ length zs → length (take n zs) ≡ n
take_full zero zs h = refl
take_full (suc n) [] h = absurd (omega arith)
take_full (suc n) (y ∷ zs) h = ap suc (take_full n zs (omega arith))

-- ---- homes

pub home_low : (i : ℕ) → i < score_places → home i ≡ in_score i
home_low i h = ap (λ b. if b then in_score i else in_list (i - score_places)) (lt-ltb i score_places h)

pub home_case : (i : ℕ) → ((i < score_places) × (home i ≡ in_score i)) ⊎ ((score_places ≤ i) × (home i ≡ in_list (i - score_places)))
home_case i = go (nat_lt i score_places) refl
  where
    go : (b : Bool) → nat_lt i score_places ≡ b → ((i < score_places) × (home i ≡ in_score i)) ⊎ ((score_places ≤ i) × (home i ≡ in_list (i - score_places)))
    go true e = inl (ltb-true i score_places e, ap (λ b. if b then in_score i else in_list (i - score_places)) e)
    go false e = inr (ltb-false i score_places e, ap (λ b. if b then in_score i else in_list (i - score_places)) e)
