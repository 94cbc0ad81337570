-- The lines of the division by a small divisor divide.
use Rattle.std.proofs.Common.{◌≡◌, ℕ, suc, List, ◌+◌, ◌*◌, ◌/◌, ◌%◌, ◌<◌, Option, Some, arith, refl, sym, ap, ap₂, ◌∙◌, subst, ℤ, pos, ◌+ℤ◌, ◌*ℤ◌, codes, ◌∷◌, ◌++◌, mod-lt, div-le_self, zero-lt-suc}
use Rattle.mc_cmd.specs.World.{wrapped}
use Rattle.cc_line.specs.State.{State, with_score}
use Rattle.cc_line.specs.Step.{set_spot, run_act, Step}
use Rattle.cc_line.specs.Item.{steps_items}
use Rattle.cc_line.specs.Place.{scratch}
use Rattle.cc_line.proofs.SettleLemmas.{score_kept}
use Rattle.cc_line.proofs.Words.{score, low_score}
use Rattle.cc_div64.specs.Division.{small_steps, upper_digit, divide_word, behind_remainder, dividend_high, dividend_low, score_left}
use Rattle.cc_div64.specs.Law.{low_word, high_word}
use Rattle.cc_div64.proofs.TurnLines.{Scores, in_scores}
use Rattle.cc_div64.proofs.TurnLemmas.{Held, with_held, held_here}
use Rattle.cc_div64.proofs.Passing.{Goes, goes_join, goes_steps}
use Rattle.cc_div64.proofs.SmallDivisors.{next_digit, digit_quotient, upper_of, upper_is, word_rest, word_quotient, word_rest_is, word_quotient_is, based, added}

-- the scores beside a digit and the base
record Digit (bl bh : ℤ) (t : Scores) (o : Option ℤ) (c : ℤ) (u : State) : Type 0 where
  held : Held bl bh t (Some (pos 0)) o u
  digit : u.scores (codes "#c") ≡ Some c
  base : u.scores (codes "#h") ≡ Some (pos 65536)

abbrev with_digit : State → ℤ → ℤ → Scores → ℤ → State
with_digit r bl bh t c = with_score (with_score (with_held r bl bh t) (codes "#h") (pos 65536)) (codes "#c") c

digit_here : (bl bh : ℤ) (t : Scores) (o : Option ℤ) (c : ℤ) (r : State) → Digit bl bh t o c r → with_digit r bl bh t c ≡ r
digit_here bl bh t o c r d =
    score_kept (with_score (with_held r bl bh t) (codes "#h") (pos 65536)) (codes "#c") c d.digit ∙ score_kept (with_held r bl bh t) (codes "#h") (pos 65536) d.base ∙ held_here bl bh t (Some (pos 0)) o r d.held

-- ---- the lines in three parts

abbrev first_part : List Step
first_part = run_act (set_spot (scratch score_left) (pos 0)) ∷ (run_act (set_spot (scratch (codes "#h")) (pos 65536)) ∷ upper_digit dividend_high)

abbrev second_part : List Step
second_part = divide_word dividend_high ++ (upper_digit dividend_low ++ behind_remainder)

first_goes : (bl bh : ℤ) (t : Scores) (g o : Option ℤ) (s : State) → Held bl bh t g o s → Goes (steps_items first_part) s (Digit bl bh t o (upper_of t.dh))
first_goes bl bh t g o s h =
    subst (λ x. Goes (steps_items first_part) x (Digit bl bh t o (upper_of t.dh))) (held_here bl bh t g o s h)
    (goes_steps first_part (with_held s bl bh t) (Digit bl bh t o (upper_of t.dh)) refl refl refl
    (record { held = record { dl = refl; dh = refl; rl = refl; rh = refl; bl' = refl; bh' = refl; bf = refl; bg = refl; mn = refl; left = refl; sign = h.sign }; digit = refl; base = refl }))

-- the high word divided by w + 1, and the rest above the low word's digit
abbrev second_scores : ℤ → Scores → ℕ → Scores
second_scores c t w = record { dl = t.dl; dh = word_quotient c t.dh w; rl = wrapped (word_rest c t.dh w *ℤ pos 65536); rh = t.rh }

abbrev second_digit : ℤ → Scores → ℕ → ℤ
second_digit c t w = wrapped (upper_of t.dl +ℤ wrapped (word_rest c t.dh w *ℤ pos 65536))

second_goes : (w : ℕ) (bh : ℤ) (t : Scores) (o : Option ℤ) (c : ℤ) (s : State) → Digit (pos (suc w)) bh t o c s → Goes (steps_items second_part) s (Digit (pos (suc w)) bh (second_scores c t w) o (second_digit c t w))
second_goes w bh t o c s d =
    subst (λ x. Goes (steps_items second_part) x (Digit (pos (suc w)) bh (second_scores c t w) o (second_digit c t w))) (digit_here (pos (suc w)) bh t o c s d)
    (goes_steps second_part (with_digit s (pos (suc w)) bh t c) (Digit (pos (suc w)) bh (second_scores c t w) o (second_digit c t w)) refl refl refl
    (record { held = record { dl = refl; dh = refl; rl = refl; rh = refl; bl' = refl; bh' = refl; bf = refl; bg = refl; mn = refl; left = d.held.left; sign = d.held.sign }; digit = refl; base = refl }))

abbrev third_scores : ℤ → Scores → ℕ → Scores
third_scores c t w = record { dl = word_quotient c t.dl w; dh = t.dh; rl = word_rest c t.dl w; rh = t.rh }

third_goes : (w : ℕ) (bh : ℤ) (t : Scores) (o : Option ℤ) (c : ℤ) (s : State) → Digit (pos (suc w)) bh t o c s → Goes (steps_items (divide_word dividend_low)) s (Held (pos (suc w)) bh (third_scores c t w) (Some (pos 0)) o)
third_goes w bh t o c s d =
    subst (λ x. Goes (steps_items (divide_word dividend_low)) x (Held (pos (suc w)) bh (third_scores c t w) (Some (pos 0)) o)) (digit_here (pos (suc w)) bh t o c s d)
    (goes_steps (divide_word dividend_low) (with_digit s (pos (suc w)) bh t c) (Held (pos (suc w)) bh (third_scores c t w) (Some (pos 0)) o) refl refl refl
    (record { dl = refl; dh = refl; rl = refl; rh = refl; bl' = refl; bh' = refl; bf = refl; bg = refl; mn = refl; left = d.held.left; sign = d.held.sign }))

-- ---- by numbers

module _ (n w : ℕ) (hn : n < 18446744073709551616) (hw : w < 32767) where
  abbrev high : ℕ
  high = n / 4294967296

  abbrev low : ℕ
  low = n % 4294967296

  abbrev over : ℕ
  over = high % suc w * 4294967296 + low

  rest_small : high % suc w < suc w
  rest_small = mod-lt high (zero-lt-suc w)

  -- the digits of the two words
  abbrev c1 : ℕ
  c1 = high / 65536

  abbrev c2 : ℕ
  c2 = high % suc w * 65536 + low / 65536

  c1_quotient : c1 / suc w < 65536
  c1_quotient = omega (arith, div-le_self c1 (suc w))

  c2_quotient : c2 / suc w < 65536
  c2_quotient = digit_quotient 65536 (high % suc w) (low / 65536) (suc w) (zero-lt-suc w) rest_small (omega arith)

  c2_small : c2 < 2147483648
  c2_small = omega (arith, rest_small)

  c1_whole : c1 * 65536 + high % 65536 ≡ high
  c1_whole = omega arith

  c2_whole : c2 * 65536 + low % 65536 ≡ over
  c2_whole = omega arith

  whole : high * 4294967296 + low ≡ n
  whole = omega arith

  quotient_is : n / suc w ≡ high / suc w * 4294967296 + over / suc w
  quotient_is = ap (λ x. x / suc w) (sym whole) ∙ (next_digit 4294967296 high low (suc w) (zero-lt-suc w)).0

  remainder_is : n % suc w ≡ over % suc w
  remainder_is = ap (λ x. x % suc w) (sym whole) ∙ (next_digit 4294967296 high low (suc w) (zero-lt-suc w)).1

  over_quotient : over / suc w < 4294967296
  over_quotient = digit_quotient 4294967296 (high % suc w) low (suc w) (zero-lt-suc w) rest_small (omega arith)

  over_rest : over % suc w < suc w
  over_rest = mod-lt over (zero-lt-suc w)

  abbrev t0 : Scores
  t0 = in_scores n 0

  abbrev t1 : Scores
  t1 = record { dl = score low; dh = score (high / suc w); rl = pos (high % suc w * 65536); rh = pos 0 }

  first_digit_is : upper_of (score high) ≡ pos c1
  first_digit_is = upper_is high (omega arith)

  based_is : wrapped (word_rest (pos c1) (score high) w *ℤ pos 65536) ≡ pos (high % suc w * 65536)
  based_is = ap (λ a. wrapped (a *ℤ pos 65536)) (word_rest_is c1 high w (omega arith) (omega arith) hw c1_quotient ∙ ap (λ x. pos (x % suc w)) c1_whole) ∙ based (high % suc w) (omega (arith, rest_small))

  second_scores_are : second_scores (pos c1) t0 w ≡ t1
  second_scores_are =
      let q : word_quotient (pos c1) (score high) w ≡ score (high / suc w) = word_quotient_is c1 high w (omega arith) (omega arith) hw c1_quotient ∙ ap (λ x. score (x / suc w)) c1_whole in
      λ i. record { dl = score low; dh = q i; rl = based_is i; rh = pos 0 }

  second_digit_is : second_digit (pos c1) t0 w ≡ pos c2
  second_digit_is =
      ap₂ (λ a b. wrapped (a +ℤ b)) (upper_is low (omega arith)) based_is
      ∙ added (low / 65536) (high % suc w * 65536) (omega (arith, rest_small))
      ∙ ap pos (let e : low / 65536 + high % suc w * 65536 ≡ c2 = omega arith in e)

  third_scores_are : third_scores (pos c2) t1 w ≡ in_scores (n / suc w) (n % suc w)
  third_scores_are =
      let q : word_quotient (pos c2) (score low) w ≡ score (n / suc w % 4294967296) =
      word_quotient_is c2 low w c2_small (omega arith) hw c2_quotient ∙ ap (λ x. score (x / suc w)) c2_whole ∙ (let e : over / suc w ≡ n / suc w % 4294967296 = omega (arith, quotient_is, over_quotient) in ap score e) in
      let h : score (high / suc w) ≡ score (n / suc w / 4294967296) = (let e : high / suc w ≡ n / suc w / 4294967296 = omega (arith, quotient_is, over_quotient) in ap score e) in
      let r : word_rest (pos c2) (score low) w ≡ score (n % suc w % 4294967296) =
      word_rest_is c2 low w c2_small (omega arith) hw c2_quotient ∙ ap (λ x. pos (x % suc w)) c2_whole ∙ sym (low_score (over % suc w) (omega (arith, over_rest))) ∙ (let e : over % suc w ≡ n % suc w % 4294967296 = omega (arith, remainder_is, over_rest) in ap score e) in
      let z : pos 0 ≡ score (n % suc w / 4294967296) = (let e : 0 ≡ n % suc w / 4294967296 = omega (arith, remainder_is, over_rest) in ap score e) in
      λ i. record { dl = q i; dh = h i; rl = r i; rh = z i }

  small_from : (bh : ℤ) (g o : Option ℤ) (s : State) → Held (pos (suc w)) bh t0 g o s → Goes (steps_items small_steps) s (Held (pos (suc w)) bh (in_scores (n / suc w) (n % suc w)) (Some (pos 0)) o)
  small_from bh g o s h =
      goes_join (steps_items first_part) _ s (Digit (pos (suc w)) bh t0 o (pos c1)) (Held (pos (suc w)) bh (in_scores (n / suc w) (n % suc w)) (Some (pos 0)) o)
      (subst (λ c. Goes (steps_items first_part) s (Digit (pos (suc w)) bh t0 o c)) first_digit_is (first_goes (pos (suc w)) bh t0 g o s h))
      (λ u d. goes_join (steps_items second_part) _ u (Digit (pos (suc w)) bh t1 o (pos c2)) (Held (pos (suc w)) bh (in_scores (n / suc w) (n % suc w)) (Some (pos 0)) o)
      (subst (λ t. Goes (steps_items second_part) u (Digit (pos (suc w)) bh t o (pos c2))) second_scores_are
      (subst (λ c. Goes (steps_items second_part) u (Digit (pos (suc w)) bh (second_scores (pos c1) t0 w) o c)) second_digit_is
      (second_goes w bh t0 o (pos c1) u d)))
      (λ v e. subst (λ t. Goes (steps_items (divide_word dividend_low)) v (Held (pos (suc w)) bh t (Some (pos 0)) o)) third_scores_are (third_goes w bh t1 o (pos c2) v e)))

  pub small_goes : (g o : Option ℤ) (s : State) → Held (low_word (suc w)) (high_word (suc w)) t0 g o s
      → Goes (steps_items small_steps) s (Held (low_word (suc w)) (high_word (suc w)) (in_scores (n / suc w) (n % suc w)) (Some (pos 0)) o)
  small_goes g o s h =
      let e : low_word (suc w) ≡ pos (suc w) = (let m : suc w % 4294967296 ≡ suc w = omega arith in ap score m ∙ low_score (suc w) (omega arith)) in
      subst (λ b. Goes (steps_items small_steps) s (Held b (high_word (suc w)) (in_scores (n / suc w) (n % suc w)) (Some (pos 0)) o)) (sym e)
      (small_from (high_word (suc w)) g o s (subst (λ b. Held b (high_word (suc w)) t0 g o s) e h))
