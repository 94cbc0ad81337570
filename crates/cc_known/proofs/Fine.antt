-- The steps of each operation name working scores alone, and are lines under every namespace.
use Rattle.std.proofs.Common.{◌≡◌, ℕ, zero, suc, ◌-◌, ◌^◌, ◌<◌, ◌≤◌, List, [], ◌∷◌, ◌++◌, pos, negsuc, Bool, true, false, nat_eq, nat_le, nat_lt, refl, sym, ap, ◌∙◌, subst, arith, if◌then◌else◌, codes, ⊎_elim, zero-le}
use Rattle.std.proofs.lemmas.Bool.{cases_lt, cond-false, le-leb, lt-ltb, le-ltb, ltb-true, ltb-false, leb-true, leb-false}
use Rattle.mc_nbt.proofs.TestLemmas.{and_both}
use Rattle.mc_nbt.specs.Word.{is_int}
use Rattle.mc_cmd.specs.Command.{Range, add, assign, between, divide, multiply}
use Rattle.mc_cmd.specs.Word.{is_holder, range_fits}
use Rattle.cc_i32.specs.Light.{least, truth}
use Rattle.cc_line.specs.Fit.{steps_fit}
use Rattle.cc_line.specs.Place.{scratch}
use Rattle.cc_line.specs.Step.{Step, decrease, fails, holds, in_range, increase, run_act}
use Rattle.cc_line.proofs.OnPlacesLemmas.{fit_append}
use Rattle.cc_line.proofs.Words.{score, low_score}
use Rattle.cc_bits.specs.Line.{makes, sets}
use Rattle.cc_known.specs.Compare.{below_steps, is_so, high_range, low_range, not_below_steps}
use Rattle.cc_known.specs.Divide.{div_s_steps, rem_s_steps, rem_u_steps}
use Rattle.cc_known.specs.Mask.{after_copy, and_steps, bit_count, change_steps, is_one, more_steps, or_steps, rest_line, rest_steps, sets_power, sum_steps, turn_steps, xor_steps}
use Rattle.cc_known.specs.Shift.{rotl_steps, shl_steps, shr_s_steps, shr_u_on, shr_u_steps, sign_bit_steps}
use Rattle.cc_known.specs.Work.{steps_work}
use Rattle.cc_known.proofs.Parts.{sum_none, sum_under_ones, sum_under_zeros}
use Rattle.cc_known.proofs.Working.{work_append}

pub record Fine (xs : List Step) : Type 0 where
  pub works : steps_work xs ≡ true
  pub fits : steps_fit xs ≡ true

fine_both : (xs ys : List Step) → Fine xs → Fine ys → Fine (xs ++ ys)
fine_both xs ys f g = record { works = work_append xs ys f.works g.works; fits = fit_append xs ys f.fits g.fits }

fine_none : Fine []
fine_none = record { works = refl; fits = refl }

-- each number that a score may have is an int
score_int : (n : ℕ) → is_int (score n) ≡ true
score_int n = ⊎_elim
    (λ l. ap is_int (low_score n l) ∙ lt-ltb n 2147483648 l)
    (λ g. ap is_int (cond-false (nat_lt n 2147483648) (pos n) (negsuc (4294967296 - suc n)) (le-ltb n 2147483648 g)) ∙ lt-ltb (4294967296 - suc n) 2147483648 (omega arith))
    (cases_lt n 2147483648)

-- ---- rests and sums

rest_a_fine : (p : ℕ) → Fine (rest_steps p (codes "#a"))
unfolding is_holder
rest_a_fine p = go (nat_lt p 31)
  where
    go : (b : Bool) → Fine (sets_power p ∷ rest_line b (codes "#a") ∷ [])
    go true = record { works = refl; fits = rw (score_int (2 ^ p)) refl }
    go false = record { works = refl; fits = rw (score_int (2 ^ p)) refl }

rest_c_fine : (p : ℕ) → Fine (rest_steps p (codes "#c"))
unfolding is_holder
rest_c_fine p = go (nat_lt p 31)
  where
    go : (b : Bool) → Fine (sets_power p ∷ rest_line b (codes "#c") ∷ [])
    go true = record { works = refl; fits = rw (score_int (2 ^ p)) refl }
    go false = record { works = refl; fits = rw (score_int (2 ^ p)) refl }

change_fine : (twice less : Bool) → Fine (change_steps twice less)
unfolding is_holder
change_fine true true = record { works = refl; fits = refl }
change_fine true false = record { works = refl; fits = refl }
change_fine false true = record { works = refl; fits = refl }
change_fine false false = record { works = refl; fits = refl }

part_fine : (p : ℕ) (twice less : Bool) (ys : List Step) → Fine ys → Fine (rest_steps p (codes "#c") ++ (change_steps twice less ++ ys))
part_fine p twice less ys f = fine_both (rest_steps p (codes "#c")) (change_steps twice less ++ ys) (rest_c_fine p) (fine_both (change_steps twice less) ys (change_fine twice less) f)

either_fine : (b : Bool) (xs ys : List Step) → Fine xs → Fine ys → Fine (if b then xs else ys)
either_fine true xs ys f g = f
either_fine false xs ys f g = g

sum_fine : (twice : Bool) (p : ℕ) (ones : Bool) (n : ℕ) → Fine (sum_steps twice p ones n)
sum_fine twice zero ones n = subst Fine (sym (sum_none twice ones n)) fine_none
sum_fine twice (suc p) true n =
    subst Fine (sym (sum_under_ones twice p n))
    (either_fine (is_one n p) (sum_steps twice p true n) (rest_steps (suc p) (codes "#c") ++ (change_steps twice true ++ sum_steps twice p false n)) (sum_fine twice p true n) (part_fine (suc p) twice true (sum_steps twice p false n) (sum_fine twice p false n)))
sum_fine twice (suc p) false n =
    subst Fine (sym (sum_under_zeros twice p n))
    (either_fine (is_one n p) (rest_steps (suc p) (codes "#c") ++ (change_steps twice false ++ sum_steps twice p true n)) (sum_steps twice p false n) (part_fine (suc p) twice false (sum_steps twice p true n) (sum_fine twice p true n)) (sum_fine twice p false n))

copied_fine : (xs : List Step) → Fine xs → Fine (after_copy xs)
unfolding is_holder
copied_fine [] f = fine_none
copied_fine (x ∷ xs) f = record { works = f.works; fits = f.fits }

-- ---- and, or, xor

zero_fine : Fine (sets (codes "#a") (pos 0) ∷ [])
unfolding is_holder
zero_fine = record { works = refl; fits = refl }

pub and_fine : (n : ℕ) → Fine (and_steps n)
and_fine n =
    either_fine (nat_eq n 0) (sets (codes "#a") (pos 0) ∷ [])
    (if nat_lt n 2147483648 then rest_steps (bit_count n) (codes "#a") ++ after_copy (sum_steps false (bit_count n) true n) else after_copy (sum_steps false 31 true n))
    zero_fine
    (either_fine (nat_lt n 2147483648) (rest_steps (bit_count n) (codes "#a") ++ after_copy (sum_steps false (bit_count n) true n)) (after_copy (sum_steps false 31 true n))
    (fine_both (rest_steps (bit_count n) (codes "#a")) (after_copy (sum_steps false (bit_count n) true n)) (rest_a_fine (bit_count n)) (copied_fine (sum_steps false (bit_count n) true n) (sum_fine false (bit_count n) true n)))
    (copied_fine (sum_steps false 31 true n) (sum_fine false 31 true n)))

increase_fine : (n : ℕ) → nat_lt n 2147483648 ≡ true → Fine (run_act (increase (scratch (codes "#a")) n) ∷ [])
unfolding is_holder
increase_fine n e = record { works = refl; fits = rw e refl }

decrease_fine : (n : ℕ) → nat_lt n 2147483648 ≡ true → Fine (run_act (decrease (scratch (codes "#a")) n) ∷ [])
unfolding is_holder
decrease_fine n e = record { works = refl; fits = rw e refl }

half_fine : Fine (sets (codes "#m") least ∷ makes (codes "#a") add (codes "#m") ∷ [])
unfolding is_holder
half_fine = record { works = refl; fits = refl }

more_fine : (n : ℕ) → Fine (more_steps n)
more_fine n = go (nat_eq n 0) (nat_lt n 2147483648) refl (nat_eq n 2147483648) refl
  where
    go : (z b : Bool) → nat_lt n 2147483648 ≡ b → (h : Bool) → nat_eq n 2147483648 ≡ h
        → Fine
        (if z then []
        else if b then run_act (increase (scratch (codes "#a")) n) ∷ []
        else if h then sets (codes "#m") least ∷ makes (codes "#a") add (codes "#m") ∷ []
        else run_act (decrease (scratch (codes "#a")) (4294967296 - n)) ∷ [])
    go true b e h d = fine_none
    go false true e h d = increase_fine n e
    go false false e true d = half_fine
    go false false e false d =
        let high : 2147483648 ≤ n = ltb-false n 2147483648 e in
        let other : (n ≡ 2147483648 → ⊥) = λ q. absurd (let z : true ≡ false = sym (ap (λ j. nat_eq j 2147483648) q) ∙ d in cc) in
        decrease_fine (4294967296 - n) (lt-ltb (4294967296 - n) 2147483648 (above n high other))
      where
        above : (n : ℕ) → 2147483648 ≤ n → (n ≡ 2147483648 → ⊥) → 4294967296 - n < 2147483648
        above n l o = ⊎_elim (λ q. omega arith) (λ q. absurd (o (omega arith))) (cases_lt 2147483648 n)

pub or_fine : (n : ℕ) → Fine (or_steps n)
or_fine n = fine_both (and_steps (4294967295 - n)) (more_steps n) (and_fine (4294967295 - n)) (more_fine n)

turn_fine : Fine turn_steps
unfolding is_holder
turn_fine = record { works = refl; fits = refl }

pub xor_fine : (n : ℕ) → Fine (xor_steps n)
xor_fine n =
    either_fine (nat_eq n 4294967295) turn_steps (after_copy (sum_steps true 31 true (4294967295 - n)) ++ more_steps n) turn_fine
    (fine_both (after_copy (sum_steps true 31 true (4294967295 - n))) (more_steps n) (copied_fine (sum_steps true 31 true (4294967295 - n)) (sum_fine true 31 true (4294967295 - n))) (more_fine n))

-- ---- shifts

pub shl_fine : (k : ℕ) → Fine (shl_steps k)
unfolding is_holder
shl_fine k = go (nat_eq k 0)
  where
    go : (b : Bool) → Fine (if b then [] else sets_power k ∷ makes (codes "#a") multiply (codes "#m") ∷ [])
    go true = fine_none
    go false = record { works = refl; fits = rw (score_int (2 ^ k)) refl }

pub shr_s_fine : (k : ℕ) → Fine (shr_s_steps k)
unfolding is_holder
shr_s_fine k = go (nat_eq k 0) (nat_eq k 31)
  where
    go : (z b : Bool) → Fine
        (if z then []
        else if b then sets_power 30 ∷ makes (codes "#a") divide (codes "#m") ∷ sets (codes "#m") (pos 2) ∷ makes (codes "#a") divide (codes "#m") ∷ []
        else sets_power k ∷ makes (codes "#a") divide (codes "#m") ∷ [])
    go true b = fine_none
    go false true = record { works = refl; fits = refl }
    go false false = record { works = refl; fits = rw (score_int (2 ^ k)) refl }

sign_bit_a_fine : Fine (sign_bit_steps (codes "#a"))
unfolding is_holder
sign_bit_a_fine = record { works = refl; fits = refl }

sign_bit_c_fine : Fine (sign_bit_steps (codes "#c"))
unfolding is_holder
sign_bit_c_fine = record { works = refl; fits = refl }

divide_a_fine : (k : ℕ) → Fine (sets_power k ∷ makes (codes "#a") divide (codes "#m") ∷ [])
unfolding is_holder
divide_a_fine k = record { works = refl; fits = rw (score_int (2 ^ k)) refl }

divide_c_fine : (k : ℕ) → Fine (sets_power k ∷ makes (codes "#c") divide (codes "#m") ∷ [])
unfolding is_holder
divide_c_fine k = record { works = refl; fits = rw (score_int (2 ^ k)) refl }

pub shr_u_fine : (k : ℕ) → Fine (shr_u_steps k)
shr_u_fine k =
    either_fine (nat_eq k 0) [] (shr_u_on (codes "#a") k) fine_none
    (either_fine (nat_eq k 31) (sign_bit_steps (codes "#a")) (sets_power k ∷ makes (codes "#a") divide (codes "#m") ∷ rest_steps (32 - k) (codes "#a")) sign_bit_a_fine
    (fine_both (sets_power k ∷ makes (codes "#a") divide (codes "#m") ∷ []) (rest_steps (32 - k) (codes "#a")) (divide_a_fine k) (rest_a_fine (32 - k))))

shr_u_c_fine : (k : ℕ) → Fine (shr_u_on (codes "#c") k)
shr_u_c_fine k =
    either_fine (nat_eq k 31) (sign_bit_steps (codes "#c")) (sets_power k ∷ makes (codes "#c") divide (codes "#m") ∷ rest_steps (32 - k) (codes "#c")) sign_bit_c_fine
    (fine_both (sets_power k ∷ makes (codes "#c") divide (codes "#m") ∷ []) (rest_steps (32 - k) (codes "#c")) (divide_c_fine k) (rest_c_fine (32 - k)))

copy_first : (xs : List Step) → Fine xs → Fine (makes (codes "#c") assign (codes "#a") ∷ xs)
unfolding is_holder
copy_first xs f = record { works = f.works; fits = f.fits }

last_fine : (b : Bool) → Fine (makes (codes "#a") (if b then add else multiply) (if b then codes "#a" else codes "#m") ∷ makes (codes "#a") add (codes "#c") ∷ [])
unfolding is_holder
last_fine true = record { works = refl; fits = refl }
last_fine false = record { works = refl; fits = refl }

pub rotl_fine : (k : ℕ) → Fine (rotl_steps k)
rotl_fine k =
    either_fine (nat_eq k 0) []
    (makes (codes "#c") assign (codes "#a")
    ∷ (shr_u_on (codes "#c") (32 - k) ++ (makes (codes "#a") (if nat_eq k 1 then add else multiply) (if nat_eq k 1 then codes "#a" else codes "#m") ∷ makes (codes "#a") add (codes "#c") ∷ [])))
    fine_none
    (copy_first _ (fine_both (shr_u_on (codes "#c") (32 - k)) _ (shr_u_c_fine (32 - k)) (last_fine (nat_eq k 1))))

-- ---- divisions

pub rem_u_fine : (k : ℕ) → Fine (rem_u_steps k)
rem_u_fine k = either_fine (nat_eq k 0) (sets (codes "#a") (pos 0) ∷ []) (rest_steps k (codes "#a")) zero_fine (rest_a_fine k)

pub div_s_fine : (n : ℕ) → nat_lt n 2147483648 ≡ true → Fine (div_s_steps n)
unfolding is_holder
div_s_fine n e =
    let less : nat_lt (n - 1) 2147483648 ≡ true = lt-ltb (n - 1) 2147483648 (let l : n < 2147483648 = ltb-true n 2147483648 e in omega arith) in
    record { works = refl; fits = rw (e, less) refl }

pub rem_s_fine : (n : ℕ) → nat_lt n 2147483648 ≡ true → Fine (rem_s_steps n)
unfolding is_holder
rem_s_fine n e = record { works = refl; fits = rw e refl }

-- ---- comparisons

low_fits : (n : ℕ) → n ≤ 2147483648 → range_fits (between (pos 0) (pos (n - 1))) ≡ true
low_fits n h = and_both _ _ (lt-ltb (n - 1) 2147483648 (omega arith)) (le-leb 0 (n - 1) zero-le)

high_fits : (n : ℕ) → 2147483648 < n → range_fits (between (score n) (negsuc 0)) ≡ true
high_fits n h =
    let e : score n ≡ negsuc (4294967296 - suc n) = cond-false (nat_lt n 2147483648) (pos n) (negsuc (4294967296 - suc n)) (le-ltb n 2147483648 (omega arith)) in
    subst (λ z. range_fits (between z (negsuc 0)) ≡ true) (sym e) (and_both _ _ (lt-ltb (4294967296 - suc n) 2147483648 (omega arith)) (le-leb 0 (4294967296 - suc n) zero-le))

truth_fine : (so : Bool) (r : Range) → range_fits r ≡ true → Fine (truth (is_so so (in_range (scratch (codes "#a")) r)) (scratch (codes "#a")))
unfolding is_holder
truth_fine true r e = record { works = refl; fits = rw e refl }
truth_fine false r e = record { works = refl; fits = rw e refl }

pub below_fine : (n : ℕ) → Fine (below_steps n)
below_fine n = go (nat_le n 2147483648) refl
  where
    go : (b : Bool) → nat_le n 2147483648 ≡ b → Fine (truth (if b then holds (low_range n) else fails (high_range n)) (scratch (codes "#a")))
    go true e = truth_fine true (between (pos 0) (pos (n - 1))) (low_fits n (leb-true n 2147483648 e))
    go false e = truth_fine false (between (score n) (negsuc 0)) (high_fits n (leb-false n 2147483648 e))

pub not_below_fine : (n : ℕ) → Fine (not_below_steps n)
not_below_fine n = go (nat_le n 2147483648) refl
  where
    go : (b : Bool) → nat_le n 2147483648 ≡ b → Fine (truth (if b then fails (low_range n) else holds (high_range n)) (scratch (codes "#a")))
    go true e = truth_fine false (between (pos 0) (pos (n - 1))) (low_fits n (leb-true n 2147483648 e))
    go false e = truth_fine true (between (score n) (negsuc 0)) (high_fits n (leb-false n 2147483648 e))
