-- The words of lines are read as they are spelled, and none holds a space.
use Rattle.std.proofs.Common.{◌≡◌, ◌∙◌, ap, refl, ℕ, ◌+◌, ◌<◌, ◌^◌, ◌%◌, suc, [], ◌∷◌, ◌++◌, length, get_or, Bool, true, false, ◌&&◌, eqb, Option, Some, None, arith}
use Rattle.std.specs.Prelude.{codes, ℤ, pos, negsuc, nat_eq, nat_lt, ◌||◌, if◌then◌else◌, option_map}
use Rattle.std.specs.List.{list_all}
use Rattle.std.specs.Fmt.{decimal, signed_decimal}
use Rattle.std.specs.Str.Parse.{signed_digits_value, digits_value, AllDigits}
use Rattle.std.proofs.lemmas.Str.Parse.{IsNumeralModel, numerals_by_value, tells_digits, not_in_digits}
use Rattle.std.proofs.lemmas.Fmt.{decimal_by_steps, digits_decimal, digits_value-decimal, decimal_nonempty}
use Rattle.std.proofs.lemmas.List.Folds.{list_all-append}
use Rattle.std.proofs.lemmas.Bool.{lt-ltb, ltb-true}
use lib.Signed.{mag}
use Rattle.mc_nbt.specs.Word.{is_name_byte, is_key, is_int}
use Rattle.mc_nbt.proofs.TestLemmas.{not_eq, other}
use Rattle.mc_cmd.specs.Form.{Text, lacks, cut_at, spaced}
use Rattle.mc_cmd.specs.Command.{Op, assign, add, subtract, multiply, divide, remainder, lower, raise, swap, Cmp, less, less_equal, equal, greater_equal, greater, Range, exactly, from, up_to, between}
use Rattle.mc_cmd.specs.Word.{holder, objective, id, function, is_natural, natural, op_text, any_op, op_value, op, cmp_text, any_cmp, cmp_value, cmp, range_text, range_fits, dots_here, cut_at_dots, range_by, range_in, range_value, range, is_function_cut, is_function, is_holder_byte, is_small_byte, is_objective, is_holder, is_holder_rest, is_namespace, is_id_cut, is_id, int_value, number}
use Rattle.mc_cmd.proofs.FormLemmas.{IsLast, IsFront, word_is, spaced_is, compared_is, and_first, and_second, and_both, cut_at_spells}

-- a byte of a number
abbrev pub is_number_byte : ℕ → Bool
is_number_byte b = nat_lt 46 b && nat_lt b 58 || nat_eq b 45

-- a text whose bytes pass a test has no byte that fails it
pub all_lack : (p : ℕ → Bool) (c : ℕ) → p c ≡ false → (w : Text) → list_all p w ≡ true → lacks c w ≡ true
all_lack p c n [] h = refl
all_lack p c n (b ∷ w) h = ap (λ d. if d then false else lacks c w) (other p c b n (and_first _ _ h)) ∙ all_lack p c n w (and_second (p b) _ h)

digit_bytes : (n : ℕ) → n < 10 → list_all is_number_byte ((48 + n) ∷ []) ≡ true
digit_bytes n lt = rw (lt-ltb 46 (48 + n) (omega arith), lt-ltb (48 + n) 58 (omega arith)) refl

decimal_bytes : (n : ℕ) → n < 2 ^ 64 → list_all is_number_byte (decimal n) ≡ true
decimal_bytes n lt = decimal_by_steps (λ k ds. list_all is_number_byte ds ≡ true) digit_bytes
    (λ k ds big h. rw (list_all-append is_number_byte ds ((48 + k % 10) ∷ [])) (and_both _ _ h (digit_bytes (k % 10) (omega arith)))) n lt

pub int_bytes : (z : ℤ) → mag z < 2 ^ 31 → list_all is_number_byte (signed_decimal z) ≡ true
int_bytes (pos n) lt = decimal_bytes n (omega arith)
int_bytes (negsuc n) lt = decimal_bytes (suc n) (omega arith)

own : IsNumeralModel (AllDigits 10) (digits_value 10)
own = numerals_by_value (AllDigits 10) tells_digits

first_not : (n c : ℕ) → n < 2 ^ 64 → (c < 48) → eqb (get_or (decimal n) 0 0) c ≡ false
first_not n c lt low = not_eq _ _ (not_in_digits own (decimal n) c (digits_decimal own n lt) (λ r. omega (arith, r)) 0 (decimal_nonempty n lt))

signed_value : (z : ℤ) → mag z < 2 ^ 31 → signed_digits_value 10 (signed_decimal z) ≡ z
signed_value (pos n) lt =
    let big : n < 2 ^ 64 = omega arith in
    let minus = first_not n 45 big (omega arith) in
    let plus = first_not n 43 big (omega arith) in
    rw (minus, plus) (ap pos (digits_value-decimal own n big))
signed_value (negsuc n) lt = rw (digits_value-decimal own (suc n) (omega arith)) refl

-- a number is what its spelling tells
pub int_value_text : (z : ℤ) → is_int z ≡ true → int_value (signed_decimal z) ≡ z
unfolding int_value
int_value_text z h = signed_value z (ltb-true _ _ h)

pub number_is : IsLast number
number_is = compared_is signed_decimal is_int int_value int_value_text

-- a number from 0 up is a number
natural_int : (z : ℤ) → is_natural z ≡ true → is_int z ≡ true
natural_int (pos n) h = h
natural_int (negsuc n) h = absurd cc

pub natural_is : IsLast natural
natural_is = compared_is signed_decimal is_natural int_value (λ z h. int_value_text z (natural_int z h))

-- a number isn't empty
number_nonempty : (z : ℤ) → mag z < 2 ^ 31 → 0 < length (signed_decimal z)
number_nonempty (pos n) lt = decimal_nonempty n (omega arith)
number_nonempty (negsuc n) lt = omega arith

-- ranges
no_dots : (w : Text) → list_all is_number_byte w ≡ true → cut_at_dots w ≡ None
no_dots [] h = refl
no_dots (b ∷ w) h =
    ap (λ c. dots_here c b w (cut_at_dots w)) (other is_number_byte 46 b refl (and_first _ _ h))
    ∙ ap (option_map (λ p. (b ∷ p.0, p.1))) (no_dots w (and_second (is_number_byte b) _ h))

dots_behind : (w t : Text) → list_all is_number_byte w ≡ true → cut_at_dots (w ++ (46 ∷ 46 ∷ t)) ≡ Some (w, t)
dots_behind [] t h = refl
dots_behind (b ∷ w) t h =
    ap (λ c. dots_here c b (w ++ (46 ∷ 46 ∷ t)) (cut_at_dots (w ++ (46 ∷ 46 ∷ t)))) (other is_number_byte 46 b refl (and_first _ _ h))
    ∙ ap (option_map (λ p. (b ∷ p.0, p.1))) (dots_behind w t (and_second (is_number_byte b) _ h))

range_up_to : (w : Text) → 0 < length w → range_by [] w ≡ up_to (int_value w)
range_up_to [] h = absurd (omega arith)
range_up_to (c ∷ w) h = refl

range_between : (v w : Text) → 0 < length v → 0 < length w → range_by v w ≡ between (int_value v) (int_value w)
range_between [] w g h = absurd (omega arith)
range_between (b ∷ v) [] g h = absurd (omega arith)
range_between (b ∷ v) (c ∷ w) g h = refl

range_value_text : (r : Range) → range_fits r ≡ true → range_value (range_text r) ≡ r
range_value_text (exactly n) h = ap (range_in (signed_decimal n)) (no_dots (signed_decimal n) (int_bytes n (ltb-true _ _ h))) ∙ ap exactly (int_value_text n h)
range_value_text (from n) h = ap (range_in (signed_decimal n ++ codes "..")) (dots_behind (signed_decimal n) [] (int_bytes n (ltb-true _ _ h))) ∙ ap from (int_value_text n h)
range_value_text (up_to n) h = range_up_to (signed_decimal n) (number_nonempty n (ltb-true _ _ h)) ∙ ap up_to (int_value_text n h)
range_value_text (between n m) h =
    let a = and_first _ _ h in
    let b = and_first _ _ (and_second (is_int n) _ h) in
    ap (range_in (signed_decimal n ++ (codes ".." ++ signed_decimal m))) (dots_behind (signed_decimal n) (signed_decimal m) (int_bytes n (ltb-true _ _ a)))
    ∙ range_between (signed_decimal n) (signed_decimal m) (number_nonempty n (ltb-true _ _ a)) (number_nonempty m (ltb-true _ _ b))
    ∙ ap (λ z. between z (int_value (signed_decimal m))) (int_value_text n a) ∙ ap (between n) (int_value_text m b)

pub range_is : IsLast range
range_is = compared_is range_text range_fits range_value range_value_text

-- operations and comparisons
op_value_text : (o : Op) → any_op o ≡ true → op_value (op_text o) ≡ o
op_value_text assign h = refl
op_value_text add h = refl
op_value_text subtract h = refl
op_value_text multiply h = refl
op_value_text divide h = refl
op_value_text remainder h = refl
op_value_text lower h = refl
op_value_text raise h = refl
op_value_text swap h = refl

pub op_is : IsLast op
op_is = compared_is op_text any_op op_value op_value_text

cmp_value_text : (c : Cmp) → any_cmp c ≡ true → cmp_value (cmp_text c) ≡ c
cmp_value_text less h = refl
cmp_value_text less_equal h = refl
cmp_value_text equal h = refl
cmp_value_text greater_equal h = refl
cmp_value_text greater h = refl

pub cmp_is : IsLast cmp
cmp_is = compared_is cmp_text any_cmp cmp_value cmp_value_text

-- a key has only letters, digits and `_`
pub key_bytes : (k : Text) → is_key k ≡ true → list_all is_name_byte k ≡ true
unfolding is_key
key_bytes k h = and_first _ _ h

-- no word has a space
pub holder_bare : (w : Text) → is_holder w ≡ true → lacks 32 w ≡ true
unfolding is_holder
holder_bare [] h = refl
holder_bare (b ∷ w) h = go (eqb b 35) refl h
  where
    go : (c : Bool) → eqb b 35 ≡ c → (if c then is_holder_rest w else is_holder_rest (b ∷ w)) ≡ true → lacks 32 (b ∷ w) ≡ true
    go true e h = ap (λ c. if c then false else lacks 32 w) (other (λ x. eqb x 35) 32 b refl e) ∙ all_lack is_holder_byte 32 refl w (and_first _ _ h)
    go false e h = all_lack is_holder_byte 32 refl (b ∷ w) (and_first _ _ h)

pub objective_bare : (w : Text) → is_objective w ≡ true → lacks 32 w ≡ true
unfolding is_objective
objective_bare w h = all_lack is_name_byte 32 refl w (and_first _ _ h)

-- a text lacks a byte where both its parts do
pub lacks-append : (c : ℕ) (v w : Text) → lacks c v ≡ true → lacks c w ≡ true → lacks c (v ++ w) ≡ true
lacks-append c [] w g h = h
lacks-append c (b ∷ v) w g h = go (eqb b c) g (lacks-append c v w)
  where
    go : (d : Bool) → (if d then false else lacks c v) ≡ true → (lacks c v ≡ true → lacks c w ≡ true → lacks c (v ++ w) ≡ true) → (if d then false else lacks c (v ++ w)) ≡ true
    go true g ih = absurd cc
    go false g ih = ih g h

pub namespace_bytes : (w : Text) → is_namespace w ≡ true → list_all is_small_byte w ≡ true
unfolding is_namespace
namespace_bytes w h = and_first _ _ h

-- a name behind a namespace has no space
named_bare : (w : Text) (p : Text × Text) → cut_at 58 w ≡ Some p → is_namespace p.0 ≡ true → list_all is_small_byte p.1 ≡ true → lacks 32 w ≡ true
named_bare w p e space name =
    ap (lacks 32) (cut_at_spells 58 w p.0 p.1 e)
    ∙ lacks-append 32 p.0 (58 ∷ p.1) (all_lack is_small_byte 32 refl p.0 (namespace_bytes p.0 space)) (all_lack is_small_byte 32 refl p.1 name)

pub id_bare : (w : Text) → is_id w ≡ true → lacks 32 w ≡ true
unfolding is_id
id_bare w h = go (cut_at 58 w) refl h
  where
    go : (o : Option (Text × Text)) → cut_at 58 w ≡ o → is_id_cut o ≡ true → lacks 32 w ≡ true
    go None e h = absurd cc
    go (Some p) e h = named_bare w p e (and_first _ _ h) (and_first _ _ (and_second (is_namespace p.0) _ h))

pub function_bare : (w : Text) → is_function w ≡ true → lacks 32 w ≡ true
unfolding is_function
function_bare w h = go (cut_at 58 w) refl h
  where
    go : (o : Option (Text × Text)) → cut_at 58 w ≡ o → is_function_cut o ≡ true → lacks 32 w ≡ true
    go None e h = absurd cc
    go (Some p) e h = named_bare w p e (and_first _ _ h) (and_first _ _ (and_second (is_namespace p.0) _ h))

pub op_bare : (o : Op) → any_op o ≡ true → lacks 32 (op_text o) ≡ true
op_bare assign h = refl
op_bare add h = refl
op_bare subtract h = refl
op_bare multiply h = refl
op_bare divide h = refl
op_bare remainder h = refl
op_bare lower h = refl
op_bare raise h = refl
op_bare swap h = refl

pub cmp_bare : (c : Cmp) → any_cmp c ≡ true → lacks 32 (cmp_text c) ≡ true
cmp_bare less h = refl
cmp_bare less_equal h = refl
cmp_bare equal h = refl
cmp_bare greater_equal h = refl
cmp_bare greater h = refl

number_bare : (z : ℤ) → is_int z ≡ true → lacks 32 (signed_decimal z) ≡ true
number_bare z h = all_lack is_number_byte 32 refl (signed_decimal z) (int_bytes z (ltb-true _ _ h))

pub range_bare : (r : Range) → range_fits r ≡ true → lacks 32 (range_text r) ≡ true
range_bare (exactly n) h = number_bare n h
range_bare (from n) h = lacks-append 32 (signed_decimal n) (codes "..") (number_bare n h) refl
range_bare (up_to n) h = number_bare n h
range_bare (between n m) h =
    lacks-append 32 (signed_decimal n) (codes ".." ++ signed_decimal m) (number_bare n (and_first (is_int n) _ h))
    (number_bare m (and_first (is_int m) _ (and_second (is_int n) _ h)))

-- words, and each with the space behind it
pub holder_is : IsLast holder
holder_is = word_is is_holder

pub objective_is : IsLast objective
objective_is = word_is is_objective

pub id_is : IsLast id
id_is = word_is is_id

pub function_is : IsLast function
function_is = word_is is_function

pub holder_front : IsFront (spaced holder)
holder_front = spaced_is holder holder_is holder_bare

pub objective_front : IsFront (spaced objective)
objective_front = spaced_is objective objective_is objective_bare

pub id_front : IsFront (spaced id)
id_front = spaced_is id id_is id_bare

pub function_front : IsFront (spaced function)
function_front = spaced_is function function_is function_bare

pub op_front : IsFront (spaced op)
op_front = spaced_is op op_is op_bare

pub cmp_front : IsFront (spaced cmp)
cmp_front = spaced_is cmp cmp_is cmp_bare

pub range_front : IsFront (spaced range)
range_front = spaced_is range range_is range_bare
