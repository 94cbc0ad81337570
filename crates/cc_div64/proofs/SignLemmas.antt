-- Operands with signs: their magnitudes, and the result's sign.
use Rattle.std.proofs.Common.{◌≡◌, ℕ, ◌/◌, ◌<◌, Option, Some, Bool, true, false, arith, refl, sym, ap, ap₂, ◌∙◌, subst, ℤ, pos, ◌+ℤ◌, negsuc, if◌then◌else◌, codes, ◌∷◌, [], List, ⊎_elim}
use Rattle.std.proofs.lemmas.Bool.{cases_lt, lt-leb, le-leb}
use Rattle.mc_cmd.specs.Command.{exactly, up_to}
use Rattle.mc_cmd.specs.World.{wrapped, is_in, some_is_in}
use Rattle.cc_line.specs.State.{State}
use Rattle.cc_line.specs.Step.{Step}
use Rattle.cc_line.specs.Item.{Items, join, steps_items}
use Rattle.cc_line.proofs.Words.{negative_is, unwrapped_pos}
use Rattle.cc_div64.specs.Division.{negative, dividend_high, divisor_high, dividend_low, divisor_low, minus_steps, minus_dividend, minus_divisor, remainder_sign, quotient_sign, magnitudes}
use Rattle.cc_div64.specs.Law.{high_word}
use Rattle.cc_div64.proofs.Signs.{magnitude, is_minus, differ, magnitude_is}
use Rattle.cc_div64.proofs.MinusLemmas.{Words, with_words, words_here, minus_dividend_goes, minus_divisor_goes}
use Rattle.cc_div64.proofs.Passing.{Goes, goes_join, goes_steps, goes_when, goes_so}

minus_told : (i : ℕ) → i < 18446744073709551616 → is_in (up_to (negsuc 0)) (high_word i) ≡ is_minus i
minus_told i h =
    negative_is (i / 4294967296) (omega arith)
    ∙ ⊎_elim
    (λ l. lt-leb 2147483648 (i / 4294967296) (omega arith) ∙ sym (lt-leb 9223372036854775808 i l))
    (λ g. le-leb 2147483648 (i / 4294967296) (omega arith) ∙ sym (le-leb 9223372036854775808 i g))
    (cases_lt i 9223372036854775808)

-- the sign's score
abbrev sign_number : Bool → ℤ
sign_number b = if b then pos 1 else pos 0

abbrev pub both_signs : Bool → Bool → ℤ
both_signs a b = if b then wrapped (sign_number a +ℤ pos 1) else sign_number a

one_told : (a : Bool) → is_in (exactly (pos 1)) (sign_number a) ≡ a
one_told true = refl
one_told false = refl

both_told : (a b : Bool) → is_in (exactly (pos 1)) (both_signs a b) ≡ differ a b
both_told true true = ap (is_in (exactly (pos 1))) (unwrapped_pos 2 (omega arith))
both_told true false = refl
both_told false true = ap (is_in (exactly (pos 1))) (unwrapped_pos 1 (omega arith))
both_told false false = refl

-- the operands' magnitudes, and whether the result is negated
pub record Unsigned (n v : ℕ) (b : Bool) (s : State) : Type 0 where
  pub score : ℤ
  pub words : Words n v (Some score) s
  pub told : is_in (exactly (pos 1)) score ≡ b

module _ (i j : ℕ) (hi : i < 18446744073709551616) (hj : j < 18446744073709551616) where
  remainder_sign_goes : (o : Option ℤ) (s : State) → Words i j o s → Goes (steps_items remainder_sign) s (Unsigned i j (is_minus i))
  remainder_sign_goes o s w =
      subst (λ x. Goes (steps_items remainder_sign) x (Unsigned i j (is_minus i))) (words_here i j o s w)
      (goes_steps remainder_sign (with_words s i j) (Unsigned i j (is_minus i)) refl refl refl
      (record { score = sign_number (is_in (up_to (negsuc 0)) (high_word i)); words = record { dl = refl; dh = refl; bl = refl; bh = refl; sign = refl }; told = one_told (is_in (up_to (negsuc 0)) (high_word i)) ∙ minus_told i hi }))

  quotient_sign_goes : (o : Option ℤ) (s : State) → Words i j o s → Goes (steps_items quotient_sign) s (Unsigned i j (differ (is_minus i) (is_minus j)))
  quotient_sign_goes o s w =
      subst (λ x. Goes (steps_items quotient_sign) x (Unsigned i j (differ (is_minus i) (is_minus j)))) (words_here i j o s w)
      (goes_steps quotient_sign (with_words s i j) (Unsigned i j (differ (is_minus i) (is_minus j))) refl refl refl
      (record {
        score = both_signs (is_in (up_to (negsuc 0)) (high_word i)) (is_in (up_to (negsuc 0)) (high_word j));
        words = record { dl = refl; dh = refl; bl = refl; bh = refl; sign = refl };
        told = both_told (is_in (up_to (negsuc 0)) (high_word i)) (is_in (up_to (negsuc 0)) (high_word j)) ∙ ap₂ differ (minus_told i hi) (minus_told j hj);
      }))

  dividend_goes : (o : Option ℤ) (s : State) → Words i j o s → Goes (minus_dividend (negative dividend_high ∷ [])) s (Words (magnitude i) j o)
  dividend_goes o s w =
      goes_when (negative dividend_high ∷ []) (codes "h_cc_div_minus") (steps_items (minus_steps dividend_low dividend_high)) s (Words (magnitude i) j o) (is_minus i) (tt, tt)
      (ap (some_is_in (up_to (negsuc 0))) w.dh ∙ minus_told i hi)
      (λ e. subst (λ n. Goes (steps_items (minus_steps dividend_low dividend_high)) s (Words n j o)) (sym (magnitude_is i hi true e)) (minus_dividend_goes i j o s hi w))
      (λ e. subst (λ n. Words n j o s) (sym (magnitude_is i hi false e)) w)

  divisor_goes : (n : ℕ) (o : Option ℤ) (s : State) → Words n j o s → Goes (minus_divisor (negative divisor_high ∷ [])) s (Words n (magnitude j) o)
  divisor_goes n o s w =
      goes_when (negative divisor_high ∷ []) (codes "h_cc_div_minus_by") (steps_items (minus_steps divisor_low divisor_high)) s (Words n (magnitude j) o) (is_minus j) (tt, tt)
      (ap (some_is_in (up_to (negsuc 0))) w.bh ∙ minus_told j hj)
      (λ e. subst (λ v. Goes (steps_items (minus_steps divisor_low divisor_high)) s (Words n v o)) (sym (magnitude_is j hj true e)) (minus_divisor_goes n j o s hj w))
      (λ e. subst (λ v. Words n v o s) (sym (magnitude_is j hj false e)) w)

  pub magnitudes_go : (xs : List Step) (b : Bool) (s : State) → Goes (steps_items xs) s (Unsigned i j b) → Goes (magnitudes xs) s (Unsigned (magnitude i) (magnitude j) b)
  magnitudes_go xs b s g =
      goes_join (steps_items xs) _ s (Unsigned i j b) (Unsigned (magnitude i) (magnitude j) b) g
      (λ t u. goes_so (join_both) t (Words (magnitude i) (magnitude j) (Some u.score)) (Unsigned (magnitude i) (magnitude j) b)
      (goes_join (minus_dividend (negative dividend_high ∷ [])) (minus_divisor (negative divisor_high ∷ [])) t (Words (magnitude i) j (Some u.score)) (Words (magnitude i) (magnitude j) (Some u.score)) (dividend_goes (Some u.score) t u.words) (λ x w. divisor_goes (magnitude i) (Some u.score) x w))
      (λ x w. record { score = u.score; words = w; told = u.told }))
    where
      join_both : Items
      join_both = join (minus_dividend (negative dividend_high ∷ [])) (minus_divisor (negative divisor_high ∷ []))

  pub quotient_magnitudes : (o : Option ℤ) (s : State) → Words i j o s → Goes (magnitudes quotient_sign) s (Unsigned (magnitude i) (magnitude j) (differ (is_minus i) (is_minus j)))
  quotient_magnitudes o s w = magnitudes_go quotient_sign (differ (is_minus i) (is_minus j)) s (quotient_sign_goes o s w)

  pub remainder_magnitudes : (o : Option ℤ) (s : State) → Words i j o s → Goes (magnitudes remainder_sign) s (Unsigned (magnitude i) (magnitude j) (is_minus i))
  remainder_magnitudes o s w = magnitudes_go remainder_sign (is_minus i) s (remainder_sign_goes o s w)
