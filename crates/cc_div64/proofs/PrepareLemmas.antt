-- What the turns find: a whole division where the divisor is small, or a dividend of 32 bits or 64 before its first turn.
use Rattle.std.proofs.Common.{◌≡◌, ℕ, zero, suc, ◌+◌, ◌-◌, ◌*◌, ◌/◌, ◌%◌, ◌^◌, ◌<◌, ◌≤◌, ◌==◌, Option, Some, true, false, ◌&&◌, nat_le, ◌⊎◌, inl, inr, arith, refl, sym, ap, ap₂, ◌∙◌, subst, ℤ, pos, codes, div-one, mod-lt, div-le_self}
use native.Mathlib.Nat.{mod-one}
use Rattle.mc_cmd.specs.Command.{exactly, between}
use Rattle.mc_cmd.specs.World.{is_in, some_is_in}
use Rattle.cc_line.specs.State.{State}
use Rattle.cc_line.specs.Item.{no_more, first, call_when, steps_items}
use Rattle.cc_line.proofs.Words.{score, by_sign}
use Rattle.cc_div64.specs.Turn.{Turn, After}
use Rattle.cc_div64.specs.Division.{turn_scores, by_small, of_short, small_steps, short_steps, prepare}
use Rattle.cc_div64.specs.Law.{low_word, high_word}
use Rattle.cc_div64.proofs.Turning.{begins, begins_short}
use Rattle.cc_div64.proofs.TurnLines.{in_scores}
use Rattle.cc_div64.proofs.TurnLemmas.{Held, with_held, held_here}
use Rattle.cc_div64.proofs.MinusLemmas.{Words, with_words, words_here, zero_score}
use Rattle.cc_div64.proofs.SmallLemmas.{small_goes}
use Rattle.cc_div64.proofs.Passing.{Goes, goes_join, goes_steps, goes_when, goes_so}

-- so many runs of the turns before n is divided by v
pub record Prepared (n v : ℕ) (o : Option ℤ) (u : State) : Type 0 where
  pub left : ℕ
  pub few : left ≤ 8
  pub turn : Turn
  pub wide : turn.dividend < 18446744073709551616
  pub after : After n v (8 * left) (64 - 8 * left) turn
  pub held : Held (low_word v) (high_word v) (in_scores turn.dividend turn.remainder) (Some (pos left)) o u

-- a division that is done
done : (n v : ℕ) → 0 < v → n < 18446744073709551616 → After n v 0 64 (record { dividend = n / v; remainder = n % v })
done n v p h = record {
  quotient = n / v;
  below = mod-lt n p;
  top = div-one n ∙ (let e : n ≡ n / v * v + n % v = omega arith in e);
  small = omega (arith, div-le_self n v);
  rest = (let e : n / v ≡ 0 * 2 ^ 64 + n / v = omega arith in e) ∙ sym (ap (λ m. m * 2 ^ 64 + n / v) (mod-one n));
}

-- ---- conditions

between_is : (m : ℕ) → m < 4294967296 → is_in (between (pos 1) (pos 32767)) (score m) ≡ (nat_le 1 m && nat_le m 32767)
between_is = by_sign (λ m a. is_in (between (pos 1) (pos 32767)) a ≡ (nat_le 1 m && nat_le m 32767))
    (λ m h. grind arith)
    (λ k h. grind arith)

small_is : (v : ℕ) → v < 18446744073709551616 → (is_in (exactly (pos 0)) (high_word v) && is_in (between (pos 1) (pos 32767)) (low_word v)) ≡ ((v / 4294967296 == 0) && (nat_le 1 (v % 4294967296) && nat_le (v % 4294967296) 32767))
small_is v h = ap₂ (λ p q. p && q) (zero_score (v / 4294967296) (omega arith)) (between_is (v % 4294967296) (omega arith))

small_told : (v : ℕ) → ((v / 4294967296 == 0) && (nat_le 1 (v % 4294967296) && nat_le (v % 4294967296) 32767)) ≡ true → (0 < v) × (v < 32768)
small_told v e = grind arith

short_told : (n : ℕ) → (n / 4294967296 == 0) ≡ true → n < 4294967296
short_told n e = grind arith

-- ---- the lines

abbrev Eight : ℕ → ℕ → Option ℤ → State → Type 0
Eight n v o u = Held (low_word v) (high_word v) (in_scores n 0) (Some (pos 8)) o u

abbrev Small : ℕ → ℕ → Option ℤ → State → Type 0
Small n v o u = Held (low_word v) (high_word v) (in_scores (n / v) (n % v)) (Some (pos 0)) o u

module _ (n v : ℕ) (o : Option ℤ) (p : 0 < v) (hn : n < 18446744073709551616) (hv : v < 18446744073709551616) where
  scores_go : (s : State) → Words n v o s → Goes (steps_items turn_scores) s (Eight n v o)
  scores_go s w =
      subst (λ x. Goes (steps_items turn_scores) x (Eight n v o)) (words_here n v o s w)
      (goes_steps turn_scores (with_words s n v) (Eight n v o) refl refl refl
      (record { dl = refl; dh = refl; rl = refl; rh = refl; bl' = refl; bh' = refl; bf = refl; bg = refl; mn = refl; left = refl; sign = w.sign }))

  done_here : (u : State) → Small n v o u → Prepared n v o u
  done_here u s = record { left = 0; few = omega arith; turn = record { dividend = n / v; remainder = n % v }; wide = omega (arith, div-le_self n v); after = done n v p hn; held = s }

  eight_here : (u : State) → Eight n v o u → Prepared n v o u
  eight_here u s = record { left = 8; few = omega arith; turn = record { dividend = n; remainder = 0 }; wide = hn; after = begins n v p hn; held = s }

  -- after the division by a small divisor
  abbrev Tried : State → Type 0
  Tried u = Small n v o u ⊎ Eight n v o u

  small_call : (u : State) → Eight n v o u → Goes (first (call_when by_small (codes "h_cc_div_small") (steps_items small_steps)) no_more) u Tried
  small_call u h =
      goes_when by_small (codes "h_cc_div_small") (steps_items small_steps) u Tried ((v / 4294967296 == 0) && (nat_le 1 (v % 4294967296) && nat_le (v % 4294967296) 32767)) (tt, (tt, tt))
      (ap₂ (λ x y. some_is_in (exactly (pos 0)) x && some_is_in (between (pos 1) (pos 32767)) y) h.bh' h.bl' ∙ small_is v hv)
      (λ e. small_by v refl (small_told v e).1)
      (λ e. inr h)
    where
      small_by : (m : ℕ) → m ≡ v → v < 32768 → Goes (steps_items small_steps) u Tried
      small_by zero e l = absurd (omega arith)
      small_by (suc w) e l =
          goes_so (steps_items small_steps) u (Small n v o) Tried
          (subst (λ x. Goes (steps_items small_steps) u (Small n x o)) e (small_goes n w hn (omega arith) (Some (pos 8)) o u (subst (λ x. Eight n x o u) (sym e) h)))
          (λ t k. inl k)

  short_steps_go : (u : State) → n < 4294967296 → Eight n v o u → Goes (steps_items short_steps) u (Prepared n v o)
  short_steps_go u l h =
      let e1 : score 0 ≡ score (n * 4294967296 % 4294967296) = (let e : 0 ≡ n * 4294967296 % 4294967296 = omega arith in ap score e) in
      let e2 : score (n % 4294967296) ≡ score (n * 4294967296 / 4294967296) = (let e : n % 4294967296 ≡ n * 4294967296 / 4294967296 = omega arith in ap score e) in
      subst (λ x. Goes (steps_items short_steps) x (Prepared n v o)) (held_here (low_word v) (high_word v) (in_scores n 0) (Some (pos 8)) o u h)
      (goes_steps short_steps (with_held u (low_word v) (high_word v) (in_scores n 0)) (Prepared n v o) refl refl refl
      (record {
        left = 4;
        few = omega arith;
        turn = record { dividend = n * 4294967296; remainder = 0 };
        wide = omega arith;
        after = begins_short n v p l;
        held = record { dl = ap Some e1; dh = ap Some e2; rl = refl; rh = refl; bl' = refl; bh' = refl; bf = refl; bg = refl; mn = refl; left = refl; sign = h.sign };
      }))

  short_call : (u : State) → Tried u → Goes (first (call_when of_short (codes "h_cc_div_short") (steps_items short_steps)) no_more) u (Prepared n v o)
  short_call u (inl s) =
      goes_when of_short (codes "h_cc_div_short") (steps_items short_steps) u (Prepared n v o) false (tt, (tt, tt))
      (ap (λ x. some_is_in (exactly (pos 8)) x && some_is_in (exactly (pos 0)) (u.scores (codes "#e"))) s.left)
      (λ e. absurd cc)
      (λ e. done_here u s)
  short_call u (inr h) =
      goes_when of_short (codes "h_cc_div_short") (steps_items short_steps) u (Prepared n v o) (n / 4294967296 == 0) (tt, (tt, tt))
      (ap₂ (λ x y. some_is_in (exactly (pos 8)) x && some_is_in (exactly (pos 0)) y) h.left h.dh ∙ zero_score (n / 4294967296) (omega arith))
      (λ e. short_steps_go u (short_told n e) h)
      (λ e. eight_here u h)

  pub prepare_goes : (s : State) → Words n v o s → Goes prepare s (Prepared n v o)
  prepare_goes s w =
      goes_join (steps_items turn_scores) _ s (Eight n v o) (Prepared n v o) (scores_go s w)
      (λ u h. goes_join (first (call_when by_small (codes "h_cc_div_small") (steps_items small_steps)) no_more) _ u Tried (Prepared n v o) (small_call u h) short_call)
