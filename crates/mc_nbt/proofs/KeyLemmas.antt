-- Which texts begin a key that comes after another.
use Rattle.std.proofs.Common.{◌≡◌, ℕ, zero, suc, ◌+◌, ◌-◌, ◌<◌, ◌≤◌, List, [], ◌∷◌, ◌++◌, length, Bool, true, false, Option, Some, None, refl, sym, ap, ◌∙◌, arith, length-append, subst}
use Rattle.std.specs.Prelude.{◌&&◌, nat_eq, nat_lt, nat_le, if◌then◌else◌, cond}
use Rattle.std.specs.List.{list_all}
use Rattle.std.specs.declared.cmp.Ordering.TheVariants.{Less, Equal, Greater}
use Rattle.std.specs.Ordering.{nat_cmp, is_lt, ordering_then}
use Rattle.std.specs.Cmp.Lexicographic.{slice_cmp}
use Rattle.std.proofs.lemmas.List.Folds.{list_all-append}
use Rattle.std.proofs.lemmas.Bool.{lt-ltb, ltb-true, le-leb, leb-true, and_from, eqb-true}
use Rattle.std.proofs.lemmas.Bool.Decides.{Decides-eqb, nat_tests}
use Rattle.mc_nbt.specs.Word.{is_name_byte, is_key, comes_before}
use Rattle.mc_nbt.specs.steps.Reading.{comes_after, greatest, begins_key}
use Rattle.mc_nbt.proofs.TestLemmas.{and_first, and_second}

-- of two texts with a first byte, the first bytes decide, or else what follows
comes_before_more : (a b : ℕ) (v w : List ℕ) → comes_before (a ∷ v) (b ∷ w) ≡ (if nat_lt a b then true else nat_eq a b && comes_before v w)
comes_before_more a b v w = go (nat_lt a b) (nat_eq a b)
  where
    go : (less same : Bool) → is_lt (ordering_then (cond less Less (cond same Equal Greater)) (slice_cmp nat_cmp v w)) ≡ (if less then true else same && comes_before v w)
    go true same = refl
    go false true = refl
    go false false = refl

not_before_empty : (v : List ℕ) → comes_before v [] ≡ true → ⊥
not_before_empty [] h = cc
not_before_empty (a ∷ v) h = cc

up_to_greatest : (b : ℕ) → is_name_byte b ≡ true → b ≤ 122
up_to_greatest b h = grind (arith, nat_tests)

-- what comes before an end of a key comes before the greatest end
before_greatest : (v w : List ℕ) (n : ℕ) → list_all is_name_byte w ≡ true → length w ≤ n → comes_before v w ≡ true → comes_before v (greatest n) ≡ true
before_greatest v [] n a s h = absurd (not_before_empty v h)
before_greatest v (b ∷ w) zero a s h = absurd (omega arith)
before_greatest [] (b ∷ w) (suc n) a s h = refl
before_greatest (c ∷ v) (b ∷ w) (suc n) a s h =
    comes_before_more c 122 v (greatest n)
    ∙ go (nat_lt c b) refl (nat_lt c 122) refl (sym (comes_before_more c b v w) ∙ h) (before_greatest v w n (and_second (is_name_byte b) _ a) (omega arith))
  where
    low : b ≤ 122
    low = up_to_greatest b (and_first (is_name_byte b) _ a)

    at_greatest : nat_lt c 122 ≡ false → c ≤ 122 → c ≡ 122
    at_greatest f l = grind (arith, nat_tests)

    go : (p : Bool) → nat_lt c b ≡ p → (q : Bool) → nat_lt c 122 ≡ q → (if p then true else nat_eq c b && comes_before v w) ≡ true → (comes_before v w ≡ true → comes_before v (greatest n) ≡ true) → (if q then true else nat_eq c 122 && comes_before v (greatest n)) ≡ true
    go p x true y g ih = refl
    go true x false y g ih =
        let less : c < b = ltb-true c b x in
        let z : nat_lt c 122 ≡ true = lt-ltb c 122 (omega (arith, low)) in
        cc
    go false x false y g ih =
        let same : c ≡ b = eqb-true c b (and_first (nat_eq c b) _ g) in
        let z : c ≡ 122 = at_greatest y (omega (arith, low)) in
        and_from _ _ ((Decides-eqb c 122).1 z) (ih (and_second (nat_eq c b) _ g))

-- the same behind a beginning
before_raised : (v k w : List ℕ) (n : ℕ) → list_all is_name_byte w ≡ true → length w ≤ n → comes_before v (k ++ w) ≡ true → comes_before v (k ++ greatest n) ≡ true
before_raised v [] w n a s h = before_greatest v w n a s h
before_raised [] (b ∷ k) w n a s h = refl
before_raised (c ∷ v) (b ∷ k) w n a s h =
    comes_before_more c b v (k ++ greatest n)
    ∙ go (nat_lt c b) (sym (comes_before_more c b v (k ++ w)) ∙ h) (before_raised v k w n a s)
  where
    go : (p : Bool) → (if p then true else nat_eq c b && comes_before v (k ++ w)) ≡ true → (comes_before v (k ++ w) ≡ true → comes_before v (k ++ greatest n) ≡ true) → (if p then true else nat_eq c b && comes_before v (k ++ greatest n)) ≡ true
    go true g ih = refl
    go false g ih = and_from _ _ (and_first (nat_eq c b) _ g) (ih (and_second (nat_eq c b) _ g))

after_raised : (l : Option (List ℕ)) (k w : List ℕ) (n : ℕ) → list_all is_name_byte w ≡ true → length w ≤ n → comes_after l (k ++ w) ≡ true → comes_after l (k ++ greatest n) ≡ true
after_raised None k w n a s h = refl
after_raised (Some v) k w n a s h = before_raised v k w n a s h

length-greatest : (n : ℕ) → length (greatest n) ≡ n
length-greatest zero = refl
length-greatest (suc n) = ap suc (length-greatest n)

greatest_names : (n : ℕ) → list_all is_name_byte (greatest n) ≡ true
greatest_names zero = refl
greatest_names (suc n) = greatest_names n

-- each beginning of a key that comes after the last one passes the test
pub begins_key-of : (l : Option (List ℕ)) (k rest : List ℕ) → is_key (k ++ rest) ≡ true → comes_after l (k ++ rest) ≡ true → begins_key l k ≡ true
unfolding is_key
begins_key-of l k rest h after =
    let names = sym (list_all-append is_name_byte k rest) ∙ and_first (list_all is_name_byte (k ++ rest)) _ h in
    let most : length (k ++ rest) ≤ 32 = leb-true (length (k ++ rest)) 32 (and_second (nat_le 1 (length (k ++ rest))) _ (and_second (list_all is_name_byte (k ++ rest)) _ h)) in
    let short : length k + length rest ≤ 32 = subst (λ n. n ≤ 32) (length-append k rest) most in
    and_from _ _ (and_first (list_all is_name_byte k) _ names)
    (and_from _ _ (le-leb (length k) 32 (omega arith)) (after_raised l k rest (32 - length k) (and_second (list_all is_name_byte k) _ names) (omega arith) after))

-- what passes the test begins a key that comes after the last one: the one with the greatest end
abbrev pub sample_key : List ℕ → List ℕ
sample_key k = k ++ greatest (32 - length k)

pub sample_key-is_key : (l : Option (List ℕ)) (k : List ℕ) → begins_key l k ≡ true → is_key (sample_key k) ≡ true
unfolding is_key
sample_key-is_key l k h =
    let short : length k ≤ 32 = leb-true (length k) 32 (and_first (nat_le (length k) 32) _ (and_second (list_all is_name_byte k) _ h)) in
    let long : length (k ++ greatest (32 - length k)) ≡ 32 = omega (arith, length-append k (greatest (32 - length k)), length-greatest (32 - length k)) in
    and_from _ _ (list_all-append is_name_byte k (greatest (32 - length k)) ∙ and_from _ _ (and_first (list_all is_name_byte k) _ h) (greatest_names (32 - length k)))
    (ap (λ n. nat_le 1 n && nat_le n 32) long)

pub sample_key-comes_after : (l : Option (List ℕ)) (k : List ℕ) → begins_key l k ≡ true → comes_after l (sample_key k) ≡ true
sample_key-comes_after l k h = and_second (nat_le (length k) 32) _ (and_second (list_all is_name_byte k) _ h)
