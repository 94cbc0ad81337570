-- A pair of words negated.
use Rattle.std.proofs.Common.{◌≡◌, ℕ, zero, suc, ◌+◌, ◌-◌, ◌*◌, ◌/◌, ◌%◌, ◌<◌, ℤ, pos, negsuc, ◌-ℤ◌, ◌*ℤ◌, Option, Some, not, ◌==◌, arith, refl, ap, ap₂, ◌∙◌, subst, ⊎_elim, if◌then◌else◌, codes}
use Rattle.std.proofs.lemmas.Bool.{cases_eq, ne_eqb, eq-eqb}
use Rattle.mc_cmd.specs.Command.{exactly}
use Rattle.mc_cmd.specs.World.{wrapped, is_in}
use Rattle.cc_line.specs.State.{State, with_score}
use Rattle.cc_line.specs.Item.{steps_items}
use Rattle.cc_line.proofs.SettleLemmas.{score_kept}
use Rattle.cc_line.proofs.Words.{score, by_sign, product_of}
use Rattle.cc_div64.specs.Division.{minus_steps, dividend_low, dividend_high, divisor_low, divisor_high}
use Rattle.cc_div64.specs.Law.{low_word, high_word, minus}
use Rattle.cc_div64.proofs.Pairs.{minus_one}
use Rattle.cc_div64.proofs.Passing.{Goes, goes_steps}

pub zero_score : (m : ℕ) → m < 4294967296 → is_in (exactly (pos 0)) (score m) ≡ (m == 0)
zero_score = by_sign (λ m a. is_in (exactly (pos 0)) a ≡ (m == 0))
    (λ m h. grind arith)
    (λ k h. grind arith)

abbrev minus_low : ℤ → ℤ
minus_low l = wrapped (l *ℤ negsuc 0)

abbrev minus_high : ℤ → ℤ → ℤ
minus_high l h = if not (is_in (exactly (pos 0)) (minus_low l)) then wrapped (wrapped (h *ℤ negsuc 0) -ℤ pos 1) else wrapped (h *ℤ negsuc 0)

times_minus : (m : ℕ) → m < 4294967296 → wrapped (score m *ℤ negsuc 0) ≡ score ((4294967296 - m) % 4294967296)
times_minus m h = product_of m 4294967295 h (omega arith) ∙ (let e : (m * 4294967295) % 4294967296 ≡ (4294967296 - m) % 4294967296 = omega arith in ap score e)

nonzero : (n : ℕ) → (n ≡ 0 → ⊥) → 0 < n
nonzero zero h = absurd (h refl)
nonzero (suc n) h = omega arith

minus_low_is : (i : ℕ) → i < 18446744073709551616 → minus_low (low_word i) ≡ low_word (minus i)
minus_low_is i h = times_minus (i % 4294967296) (omega arith) ∙ (let e : (4294967296 - i % 4294967296) % 4294967296 ≡ minus i % 4294967296 = omega arith in ap score e)

minus_high_is : (i : ℕ) → i < 18446744073709551616 → minus_high (low_word i) (high_word i) ≡ high_word (minus i)
minus_high_is i p =
    let l : ℕ = (4294967296 - i % 4294967296) % 4294967296 in
    let h : ℕ = (4294967296 - i / 4294967296) % 4294967296 in
    ap₂ (λ x y. if not (is_in (exactly (pos 0)) x) then wrapped (y -ℤ pos 1) else y) (times_minus (i % 4294967296) (omega arith)) (times_minus (i / 4294967296) (omega arith))
    ∙ ap (λ b. if not b then wrapped (score h -ℤ pos 1) else score h) (zero_score l (omega arith))
    ∙ ⊎_elim
    (λ z. ap (λ b. if not b then wrapped (score h -ℤ pos 1) else score h) (eq-eqb l 0 z) ∙ (let e : h ≡ minus i / 4294967296 = omega arith in ap score e))
    (λ n. ap (λ b. if not b then wrapped (score h -ℤ pos 1) else score h) (ne_eqb l 0 n) ∙ minus_one h (omega arith)
    ∙ (let e : (h + 4294967295) % 4294967296 ≡ minus i / 4294967296 = omega (arith, nonzero l n) in ap score e))
    (cases_eq l 0)

-- the operands' words, and the sign's score
pub record Words (i j : ℕ) (o : Option ℤ) (s : State) : Type 0 where
  pub dl : s.scores (codes "#d") ≡ Some (low_word i)
  pub dh : s.scores (codes "#e") ≡ Some (high_word i)
  pub bl : s.scores (codes "#m") ≡ Some (low_word j)
  pub bh : s.scores (codes "#n") ≡ Some (high_word j)
  pub sign : s.scores (codes "#s") ≡ o

abbrev pub with_words : State → ℕ → ℕ → State
with_words s i j = with_score (with_score (with_score (with_score s (codes "#d") (low_word i)) (codes "#e") (high_word i)) (codes "#m") (low_word j)) (codes "#n") (high_word j)

pub words_here : (i j : ℕ) (o : Option ℤ) (s : State) → Words i j o s → with_words s i j ≡ s
words_here i j o s w =
    let s1 : State = with_score s (codes "#d") (low_word i) in
    let s2 : State = with_score s1 (codes "#e") (high_word i) in
    let s3 : State = with_score s2 (codes "#m") (low_word j) in
    score_kept s3 (codes "#n") (high_word j) w.bh ∙ score_kept s2 (codes "#m") (low_word j) w.bl ∙ score_kept s1 (codes "#e") (high_word i) w.dh ∙ score_kept s (codes "#d") (low_word i) w.dl

pub minus_dividend_goes : (i j : ℕ) (o : Option ℤ) (s : State) → i < 18446744073709551616 → Words i j o s → Goes (steps_items (minus_steps dividend_low dividend_high)) s (Words (minus i) j o)
minus_dividend_goes i j o s h w =
    subst (λ x. Goes (steps_items (minus_steps dividend_low dividend_high)) x (Words (minus i) j o)) (words_here i j o s w)
    (goes_steps (minus_steps dividend_low dividend_high) (with_words s i j) (Words (minus i) j o) refl refl refl
    (record { dl = ap Some (minus_low_is i h); dh = ap Some (minus_high_is i h); bl = refl; bh = refl; sign = w.sign }))

pub minus_divisor_goes : (i j : ℕ) (o : Option ℤ) (s : State) → j < 18446744073709551616 → Words i j o s → Goes (steps_items (minus_steps divisor_low divisor_high)) s (Words i (minus j) o)
minus_divisor_goes i j o s h w =
    subst (λ x. Goes (steps_items (minus_steps divisor_low divisor_high)) x (Words i (minus j) o)) (words_here i j o s w)
    (goes_steps (minus_steps divisor_low divisor_high) (with_words s i j) (Words i (minus j) o) refl refl refl
    (record { dl = refl; dh = refl; bl = ap Some (minus_low_is j h); bh = ap Some (minus_high_is j h); sign = w.sign }))
