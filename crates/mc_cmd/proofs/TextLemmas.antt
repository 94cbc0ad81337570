-- What std's functions on texts do, as the forms of the grammar have it.
use Rattle.std.proofs.Common.{◌≡◌, ℕ, zero, suc, ◌+◌, [], ◌∷◌, ◌++◌, length, take, drop, Bool, true, false, Option, Some, None, Result, Ok, Err, refl, sym, ap, ◌∙◌, eqb, arith, subst, ℤ}
use Rattle.std.specs.Prelude.{option_map, ◌&&◌, nat_lt, if◌then◌else◌, MatchOption, MatchResult, is_ok}
use Rattle.std.specs.List.{list_all}
use Rattle.std.specs.Str.{bytes_eq, IsUtf8, IsAscii, is_utf8}
use Rattle.std.specs.Fmt.{signed_decimal}
use Rattle.std.proofs.lemmas.Bool.{ltb-true}
use Rattle.std.proofs.lemmas.Bool.Decides.{nat_tests, Decides-eqb}
use Rattle.std.proofs.lemmas.List.Folds.{list_all-append}
use Rattle.std.proofs.lemmas.Slice.Eq.{bytes_eq-Decides}
use Rattle.std.proofs.lemmas.Str.{IsUtf8-from_ascii, is_utf8-from_IsUtf8, IsUtf8-from_is_utf8}
use Rattle.mc_nbt.specs.Word.{is_name_byte, is_key, is_int}
use Rattle.mc_nbt.proofs.TestLemmas.{and_first, and_second, and_both}
use Rattle.mc_nbt.proofs.TreeLemmas.{bytes_refl}
use Rattle.mc_cmd.specs.Form.{Text, strip, cut_at}
use Rattle.mc_cmd.specs.Word.{is_holder_byte, is_small_byte, is_objective, is_holder, is_holder_rest, is_namespace, is_id_cut, is_id, is_function_cut, is_function, number, int_value}
use Rattle.mc_cmd.specs.Pattern.{is_literal_byte}
use Rattle.mc_cmd.proofs.FormLemmas.{cut_at_spells, strip_text, strip_spells, take_front, take_drop}
use Rattle.mc_cmd.proofs.WordLemmas.{number_is, is_number_byte, int_bytes}

-- a front that the text begins with is stripped
strip_some : (w t : Text) → bytes_eq (take (length w) t) w ≡ true → strip w t ≡ Some (drop (length w) t)
strip_some w t h =
    let front : take (length w) t ≡ w = (bytes_eq-Decides (take (length w) t) w).0 h in
    ap (strip w) (sym (take_drop (length w) t) ∙ ap (λ f. f ++ drop (length w) t) front) ∙ strip_text w (drop (length w) t)

strip_none : (w t : Text) → bytes_eq (take (length w) t) w ≡ false → strip w t ≡ None
strip_none w t h = go (strip w t) refl
  where
    go : (o : Option Text) → strip w t ≡ o → o ≡ None
    go None e = refl
    go (Some rest) e =
        let front : take (length w) t ≡ w = ap (take (length w)) (strip_spells w t rest e) ∙ take_front w rest in
        let same : bytes_eq (take (length w) t) w ≡ true = ap (λ f. bytes_eq f w) front ∙ bytes_refl w in
        absurd cc

-- std's `strip_prefix` strips a front
pub strip_is : {A : Type 0} (now : A → Text) (w t : Text) (o : Option A) → MatchOption o (bytes_eq (take (length w) t) w ≡ false) (λ x. (bytes_eq (take (length w) t) w ≡ true) × (now x ≡ drop (length w) t) × (length (now x) + length w ≡ length t)) → option_map now o ≡ strip w t
strip_is now w t None h = sym (strip_none w t h)
strip_is now w t (Some x) h = ap Some h.1 ∙ sym (strip_some w t h.0)

-- std's `from_utf8` tells whether the bytes are UTF-8
pub is_utf8_is : {A E : Type 0} (now : A → Text) (bs : Text) (Q : E → Type 0) (r : Result A E) → MatchResult r (λ s. (now s ≡ bs) × IsUtf8 bs) (λ e. (IsUtf8 bs → ⊥) × Q e) → is_ok r ≡ is_utf8 bs
is_utf8_is now bs Q (Ok s) h = sym (is_utf8-from_IsUtf8 bs h.1)
is_utf8_is now bs Q (Err e) h = go (is_utf8 bs) refl
  where
    go : (b : Bool) → is_utf8 bs ≡ b → false ≡ is_utf8 bs
    go true f = absurd (h.0 (IsUtf8-from_is_utf8 bs f))
    go false f = sym f

-- words are ASCII
abbrev pub is_low : ℕ → Bool
is_low b = nat_lt b 128

-- a text whose bytes pass a test that only ASCII passes
pub all_low : (p : ℕ → Bool) → ((b : ℕ) → p b ≡ true → is_low b ≡ true) → (w : Text) → list_all p w ≡ true → list_all is_low w ≡ true
all_low p f [] h = refl
all_low p f (b ∷ w) h = and_both _ _ (f b (and_first _ _ h)) (all_low p f w (and_second (p b) _ h))

pub low_ascii : (w : Text) → list_all is_low w ≡ true → IsAscii w
low_ascii [] h i = omega arith
low_ascii (b ∷ w) h zero = ltb-true b 128 (and_first _ _ h)
low_ascii (b ∷ w) h (suc i) = low_ascii w (and_second (is_low b) _ h) i

holder_low : (b : ℕ) → is_holder_byte b ≡ true → is_low b ≡ true
holder_low b h = grind (arith, nat_tests)

name_low : (b : ℕ) → is_name_byte b ≡ true → is_low b ≡ true
name_low b h = grind (arith, nat_tests)

small_low : (b : ℕ) → is_small_byte b ≡ true → is_low b ≡ true
small_low b h = grind (arith, nat_tests)

number_low : (b : ℕ) → is_number_byte b ≡ true → is_low b ≡ true
number_low b h = grind (arith, nat_tests)

pub objective_ascii : (w : Text) → is_objective w ≡ true → IsAscii w
unfolding is_objective
objective_ascii w h = low_ascii w (all_low is_name_byte name_low w (and_first _ _ h))

pub key_ascii : (w : Text) → is_key w ≡ true → IsAscii w
unfolding is_key
key_ascii w h = low_ascii w (all_low is_name_byte name_low w (and_first _ _ h))

pub holder_ascii : (w : Text) → is_holder w ≡ true → IsAscii w
unfolding is_holder
holder_ascii [] h = low_ascii [] refl
holder_ascii (b ∷ w) h = go (eqb b 35) refl h
  where
    go : (c : Bool) → eqb b 35 ≡ c → (if c then is_holder_rest w else is_holder_rest (b ∷ w)) ≡ true → IsAscii (b ∷ w)
    go true e h =
        let mark : b ≡ 35 = (Decides-eqb b 35).0 e in
        low_ascii (b ∷ w) (and_both _ _ (ap is_low mark) (all_low is_holder_byte holder_low w (and_first _ _ h)))
    go false e h = low_ascii (b ∷ w) (all_low is_holder_byte holder_low (b ∷ w) (and_first _ _ h))

namespace_low : (w : Text) → is_namespace w ≡ true → list_all is_low w ≡ true
unfolding is_namespace
namespace_low w h = all_low is_small_byte small_low w (and_first _ _ h)

-- a name behind a namespace
named_ascii : (w : Text) (p : Text × Text) → cut_at 58 w ≡ Some p → is_namespace p.0 ≡ true → list_all is_small_byte p.1 ≡ true → IsAscii w
named_ascii w p e space name =
    low_ascii w (ap (list_all is_low) (cut_at_spells 58 w p.0 p.1 e) ∙ list_all-append is_low p.0 (58 ∷ p.1) ∙ and_both _ _ (namespace_low p.0 space) (all_low is_small_byte small_low p.1 name))

pub id_ascii : (w : Text) → is_id w ≡ true → IsAscii w
unfolding is_id
id_ascii w h = go (cut_at 58 w) refl h
  where
    go : (o : Option (Text × Text)) → cut_at 58 w ≡ o → is_id_cut o ≡ true → IsAscii w
    go None e h = absurd cc
    go (Some p) e h = named_ascii w p e (and_first _ _ h) (and_first _ _ (and_second (is_namespace p.0) _ h))

pub function_ascii : (w : Text) → is_function w ≡ true → IsAscii w
unfolding is_function
function_ascii w h = go (cut_at 58 w) refl h
  where
    go : (o : Option (Text × Text)) → cut_at 58 w ≡ o → is_function_cut o ≡ true → IsAscii w
    go None e h = absurd cc
    go (Some p) e h = named_ascii w p e (and_first _ _ h) (and_first _ _ (and_second (is_namespace p.0) _ h))

literal_low : (b : ℕ) → is_literal_byte b ≡ true → is_low b ≡ true
literal_low b h = grind (arith, nat_tests)

pub literal_ascii : (w : Text) → list_all is_literal_byte w ≡ true → IsAscii w
literal_ascii w h = low_ascii w (all_low is_literal_byte literal_low w h)

-- a number in its one spelling
pub number_none : (w : Text) → ((z : ℤ) → is_int z ≡ true → signed_decimal z ≡ w → ⊥) → number.read w ≡ None
number_none w nots = go (is_int (int_value w) && bytes_eq (signed_decimal (int_value w)) w) refl
  where
    go : (b : Bool) → is_int (int_value w) && bytes_eq (signed_decimal (int_value w)) w ≡ b → (if b then Some (int_value w) else None) ≡ None
    go true e = absurd (nots (int_value w) (and_first _ _ e) ((bytes_eq-Decides (signed_decimal (int_value w)) w).0 (and_second (is_int (int_value w)) _ e)))
    go false e = refl

pub number_some : (w : Text) (z : ℤ) → is_int z ≡ true → signed_decimal z ≡ w → number.read w ≡ Some z
number_some w z f e = ap number.read (sym e) ∙ number_is.reads z f

pub number_utf8 : (z : ℤ) (w : Text) → is_int z ≡ true → signed_decimal z ≡ w → IsUtf8 w
number_utf8 z w f e = subst IsUtf8 e (IsUtf8-from_ascii (signed_decimal z) (low_ascii (signed_decimal z) (all_low is_number_byte number_low (signed_decimal z) (int_bytes z (ltb-true _ _ f)))))
