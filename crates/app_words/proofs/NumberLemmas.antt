-- The numbers of scripts are read as they are spelled, and what is read is spelled so.
use Rattle.std.proofs.Common.{◌≡◌, ℕ, zero, suc, ◌+◌, ◌<◌, ◌^◌, ◌%◌, [], ◌∷◌, ◌++◌, Bool, true, false, Option, Some, None, Result, Ok, refl, sym, ap, ◌∙◌, arith, ℤ, eqb}
use Rattle.std.specs.Prelude.{pos, negsuc, ◌&&◌, nat_lt, if◌then◌else◌, option_and_then, option_map}
use Rattle.std.specs.List.{list_all}
use Rattle.std.specs.Fmt.{decimal, signed_decimal}
use Rattle.std.specs.Str.{IsUtf8}
use Rattle.std.specs.Str.Parse.{ParsesUnsigned}
use Rattle.std.proofs.lemmas.Bool.{ltb-true, lt-ltb}
use Rattle.std.proofs.lemmas.Bool.Decides.{Decides-eqb}
use Rattle.std.proofs.lemmas.List.Folds.{list_all-append}
use Rattle.std.proofs.lemmas.Fmt.{decimal_is_IsNumeral_wide, decimal_by_steps_wide, parse-decimal_wide, IsAscii-decimal_wide}
use Rattle.std.proofs.lemmas.Str.{IsUtf8-from_ascii}
use Rattle.mc_nbt.proofs.TestLemmas.{other}
use Rattle.mc_cmd.specs.Form.{Text, Last, lacks, spaced}
use Rattle.mc_cmd.proofs.FormLemmas.{IsLast, IsFront, spaced_is, compared_is, and_first, and_second, and_both, and_then_some, map_some}
use Rattle.mc_cmd.proofs.WordLemmas.{all_lack, is_number_byte}
use Rattle.app_words.specs.Script.{only, limited, fixed, has_few_digits, digits_number, digits, is_argument, negative, argument_read, argument, is_count, count, is_address, address}

-- a form of which only some values are taken
pub limited_is : {A : Type 0} (l : Last A) (p : A → Bool) → IsLast l → IsLast (limited l p)
limited_is {A = A} l p i = record {
  reads = λ a h. ap (option_and_then (only p)) (i.reads a (and_first _ _ h)) ∙ ap (λ b. if b then Some a else None) (and_second (l.fits a) _ h);
  spells = λ t a h. let q = and_then_some (only p) (l.read t) a h in taken t q.0 a q.1 (p q.0) refl q.2;
}
  where
    taken : (t : Text) (x a : A) → l.read t ≡ Some x → (b : Bool) → p x ≡ b → (if b then Some x else None) ≡ Some a → (t ≡ l.text a) × (l.fits a && p a ≡ true)
    taken t x a r true e h =
        let s = i.spells t x r in
        let same : x ≡ a = cc in
        (s.0 ∙ ap l.text same, ap (λ a. l.fits a && p a) (sym same) ∙ and_both _ _ s.1 e)
    taken t x a r false e h = absurd cc

pub fixed_is : (w : Text) → IsLast (fixed w)
fixed_is w = compared_is (λ u. w) (λ u. true) (λ t. tt) (λ u h. refl)

-- a number is what its digits tell
digits_number-decimal : (n : ℕ) → has_few_digits n ≡ true → digits_number (decimal n) ≡ n
unfolding digits_number
digits_number-decimal n h =
    let few : n < 10 ^ 20 = ltb-true _ _ h in
    (decimal_is_IsNumeral_wide n (omega arith)).1

pub digits_is : IsLast digits
digits_is = compared_is decimal has_few_digits digits_number digits_number-decimal

-- a text that spells no such number
pub digits_none : (w : Text) → ((n : ℕ) → n < 10 ^ 20 → w ≡ decimal n → ⊥) → digits.read w ≡ None
digits_none w nots = go (digits.read w) refl
  where
    go : (o : Option ℕ) → digits.read w ≡ o → o ≡ None
    go None e = refl
    go (Some n) e = let s = digits_is.spells w n e in absurd (nots n (ltb-true _ _ s.1) s.0)

pub digits_some : (w : Text) (n : ℕ) → n < 10 ^ 20 → w ≡ decimal n → digits.read w ≡ Some n
digits_some w n few e = ap digits.read e ∙ digits_is.reads n (lt-ltb _ _ few)

-- the spelling of a number is UTF-8, and is parsed as the number
pub decimal_utf8 : (n : ℕ) → n < 10 ^ 20 → IsUtf8 (decimal n)
decimal_utf8 n few = IsUtf8-from_ascii _ (IsAscii-decimal_wide n (omega arith))

pub parsed : {E : Type 0} (n : ℕ) (w : Text) (r : Result ℕ E) → n < 10 ^ 20 → w ≡ decimal n → ParsesUnsigned 128 10 w r → r ≡ Ok n
parsed n w r few e h = parse-decimal_wide 128 n w r (omega arith) (omega arith) e h

-- the bytes of a number
digit_bytes : (n : ℕ) → n < 10 → list_all is_number_byte ((48 + n) ∷ []) ≡ true
digit_bytes n lt = rw (lt-ltb 46 (48 + n) (omega arith), lt-ltb (48 + n) 58 (omega arith)) refl

decimal_bytes : (n : ℕ) → n < 10 ^ 20 → list_all is_number_byte (decimal n) ≡ true
decimal_bytes n few = decimal_by_steps_wide (λ k ds. list_all is_number_byte ds ≡ true) digit_bytes
    (λ k ds big h. rw (list_all-append is_number_byte ds ((48 + k % 10) ∷ [])) (and_both _ _ h (digit_bytes (k % 10) (omega arith)))) n (omega arith)

number_bytes : (z : ℤ) → is_argument z ≡ true → list_all is_number_byte (signed_decimal z) ≡ true
number_bytes (pos n) h = decimal_bytes n (ltb-true _ _ h)
number_bytes (negsuc n) h = decimal_bytes (suc n) (ltb-true _ _ h)

-- no number has a space
digits_bare : (n : ℕ) → has_few_digits n ≡ true → lacks 32 (decimal n) ≡ true
digits_bare n h = all_lack is_number_byte 32 refl (decimal n) (decimal_bytes n (ltb-true _ _ h))

pub argument_bare : (z : ℤ) → is_argument z ≡ true → lacks 32 (signed_decimal z) ≡ true
argument_bare z h = all_lack is_number_byte 32 refl (signed_decimal z) (number_bytes z h)

pub count_front : IsFront (spaced count)
count_front = spaced_is count (limited_is digits is_count digits_is) (λ n h. digits_bare n (and_first _ _ h))

pub address_front : IsFront (spaced address)
address_front = spaced_is address (limited_is digits is_address digits_is) (λ n h. digits_bare n (and_first _ _ h))

-- a number begins with a digit
abbrev is_digit_byte : ℕ → Bool
is_digit_byte b = nat_lt 47 b && nat_lt b 58

abbrev begins_so : Text → Bool
begins_so [] = false
begins_so (b ∷ w) = is_digit_byte b

begins_still : (ds es : Text) → begins_so ds ≡ true → begins_so (ds ++ es) ≡ true
begins_still [] es h = absurd cc
begins_still (b ∷ ds) es h = h

decimal_begins : (n : ℕ) → n < 10 ^ 20 → begins_so (decimal n) ≡ true
decimal_begins n few = decimal_by_steps_wide (λ k ds. begins_so ds ≡ true)
    (λ k lt. rw (lt-ltb 47 (48 + k) (omega arith), lt-ltb (48 + k) 58 (omega arith)) refl)
    (λ k ds big h. begins_still ds _ h) n (omega arith)

-- what begins with a digit is an argument where it is a number
pub argument-digits : (t : Text) → begins_so t ≡ true → argument_read t ≡ option_map pos (digits.read t)
argument-digits [] h = absurd cc
argument-digits (b ∷ w) h =
    ap (λ c. if c then option_and_then negative (digits.read w) else option_map pos (digits.read (b ∷ w))) (other is_digit_byte 45 b refl h)

argument_reads : (z : ℤ) → is_argument z ≡ true → argument_read (signed_decimal z) ≡ Some z
argument_reads (pos n) h = argument-digits (decimal n) (decimal_begins n (ltb-true _ _ h)) ∙ ap (option_map pos) (digits_is.reads n h)
argument_reads (negsuc n) h = ap (option_and_then negative) (digits_is.reads (suc n) h)

argument_spells : (t : Text) (z : ℤ) → argument_read t ≡ Some z → (t ≡ signed_decimal z) × (is_argument z ≡ true)
argument_spells [] z h = absurd cc
argument_spells (b ∷ w) z h = go (eqb b 45) refl h
  where
    below : (n : ℕ) → digits.read w ≡ Some n → negative n ≡ Some z → b ≡ 45 → ((b ∷ w) ≡ signed_decimal z) × (is_argument z ≡ true)
    below zero r e minus = absurd cc
    below (suc n) r e minus =
        let s = digits_is.spells w (suc n) r in
        let same : negsuc n ≡ z = cc in
        (ap (λ c. c ∷ w) minus ∙ ap (λ d. 45 ∷ d) s.0 ∙ ap signed_decimal same, ap is_argument (sym same) ∙ s.1)

    go : (c : Bool) → eqb b 45 ≡ c → (if c then option_and_then negative (digits.read w) else option_map pos (digits.read (b ∷ w))) ≡ Some z → ((b ∷ w) ≡ signed_decimal z) × (is_argument z ≡ true)
    go true e h = let q = and_then_some negative (digits.read w) z h in below q.0 q.1 q.2 ((Decides-eqb b 45).0 e)
    go false e h =
        let q = map_some pos (digits.read (b ∷ w)) z h in
        let s = digits_is.spells (b ∷ w) q.0 q.1 in
        (s.0 ∙ ap signed_decimal q.2, ap is_argument (sym q.2) ∙ s.1)

pub argument_is : IsLast argument
argument_is = record { reads = argument_reads; spells = argument_spells }

-- a test behind a weaker one
pub limited-limited : (l : Last ℕ) (p q : ℕ → Bool) → ((n : ℕ) → q n ≡ true → p n ≡ true) → (t : Text) → option_and_then (only q) ((limited l p).read t) ≡ (limited l q).read t
limited-limited l p q within t = go (l.read t)
  where
    tests : (n : ℕ) (a b : Bool) → p n ≡ a → q n ≡ b → option_and_then (only q) (if a then Some n else None) ≡ (if b then Some n else None)
    tests n true b e f = ap (λ c. if c then Some n else None) f
    tests n false true e f = let yes = within n f in absurd cc
    tests n false false e f = refl

    go : (o : Option ℕ) → option_and_then (only q) (option_and_then (only p) o) ≡ option_and_then (only q) o
    go None = refl
    go (Some n) = tests n (p n) (q n) refl refl
