-- The words that stores make, by the operations of scores.
use Rattle.std.proofs.Common.{◌≡◌, ◌<◌, ◌≤◌, ℕ, zero, suc, ◌+◌, ◌*◌, ◌-◌, ◌/◌, ◌%◌, ◌^◌, Some}
use Rattle.std.proofs.Common.{Bool, true, false, refl, sym, ap, ap₂, ◌∙◌, arith}
use Rattle.std.specs.Prelude.{ℤ, pos, ◌+ℤ◌, ◌-ℤ◌, ◌*ℤ◌, nat_lt}
use Rattle.std.proofs.lemmas.Nat.{div-add-mod'}
use Rattle.std.proofs.lemmas.Bool.{ltb-true, ltb-false}
use Rattle.mc_cmd.specs.Command.{add, subtract, multiply, divide, remainder}
use Rattle.mc_cmd.specs.World.{wrapped, operate}
use Rattle.cc_line.proofs.Words.{sum_of, difference_of, product_of}
use Rattle.cc_page.specs.Pages.{signed_word, part_of, with_part, first_with}
use Rattle.cc_page.proofs.ByteLemmas.{with_part-below}
use Rattle.cc_page.proofs.Scores.{score_low, score_high, rest_pos, rest_below, by_three, parts_by_scores}

-- one of 0, 1, 2 and 3
pub by_four : (P : ℕ → Type 0) → P 0 → P 1 → P 2 → P 3 → (r : ℕ) → r < 4 → P r
by_four P a b c d zero h = a
by_four P a b c d (suc r) h = by_three P b c d (suc r) (omega arith) h

power_small : (r : ℕ) → r < 4 → 256 ^ r < 2147483648
power_small r h = by_four (λ r. 256 ^ r < 2147483648) (omega arith) (omega arith) (omega arith) (omega arith) r h

-- ---- the rest of a word

rests : (m d : ℕ) → (2147483648 ≤ m → d - (4294967296 - suc m) % suc d ≡ m % suc d) → operate remainder (signed_word m) (pos (suc d)) ≡ Some (pos (m % suc d))
rests m d n = go (nat_lt m 2147483648) refl
  where
    go : (b : Bool) → nat_lt m 2147483648 ≡ b → operate remainder (signed_word m) (pos (suc d)) ≡ Some (pos (m % suc d))
    go true k = ap (λ z. operate remainder z (pos (suc d))) (score_low m (ltb-true m 2147483648 k)) ∙ ap Some (rest_pos m d)
    go false k =
        let h = ltb-false m 2147483648 k in
        ap (λ z. operate remainder z (pos (suc d))) (score_high m h) ∙ ap Some (rest_below (4294967296 - suc m) d) ∙ ap (λ n. Some (pos n)) (n h)

pub word_rest : (m k : ℕ) → m < 4294967296 → 0 < k → k < 4 → operate remainder (signed_word m) (pos (256 ^ k)) ≡ Some (pos (m % 256 ^ k))
word_rest m k h =
    by_three (λ k. operate remainder (signed_word m) (pos (256 ^ k)) ≡ Some (pos (m % 256 ^ k)))
    (rests m 255 (λ l. omega arith)) (rests m 65535 (λ l. omega arith)) (rests m 16777215 (λ l. omega arith)) k

rest_small : (m k : ℕ) → 0 < k → k < 4 → m % 256 ^ k < 16777216
rest_small m k = by_three (λ k. m % 256 ^ k < 16777216) (omega arith) (omega arith) (omega arith) k

-- ---- some bytes of a word, changed

-- the bytes that stand there are taken from the new ones, and what is left, times the scale of their place, is added
pub record Changed (m x r w : ℕ) : Type 0 where
  pub quotient : ℤ
  pub divided : operate divide (signed_word m) (pos (256 ^ r)) ≡ Some quotient
  pub old : operate remainder quotient (pos (256 ^ w)) ≡ Some (pos (part_of m r w))
  pub new : operate remainder (signed_word x) (pos (256 ^ w)) ≡ Some (pos (x % 256 ^ w))
  pub difference : ℤ
  pub differs : operate subtract (pos (x % 256 ^ w)) (pos (part_of m r w)) ≡ Some difference
  pub scaled : ℤ
  pub scales : operate multiply difference (pos (256 ^ r)) ≡ Some scaled
  pub added : operate add (signed_word m) scaled ≡ Some (signed_word (with_part m r w x))

-- a difference that wraps, times a power of 256, added with wrapping
turned : (m a b r : ℕ) → r < 4 → m < 4294967296 → b * 256 ^ r ≤ m → (m - b * 256 ^ r) + a * 256 ^ r < 4294967296
    → (m + ((a + (4294967296 - b)) % 4294967296 * 256 ^ r) % 4294967296) % 4294967296 ≡ (m - b * 256 ^ r) + a * 256 ^ r
turned m a b r h l =
    by_four
    (λ r. b * 256 ^ r ≤ m → (m - b * 256 ^ r) + a * 256 ^ r < 4294967296
    → (m + ((a + (4294967296 - b)) % 4294967296 * 256 ^ r) % 4294967296) % 4294967296 ≡ (m - b * 256 ^ r) + a * 256 ^ r)
    (λ k q. omega arith) (λ k q. omega arith) (λ k q. omega arith) (λ k q. omega arith) r h

at_most : (q f : ℕ) → q % f ≤ q
at_most q f = let e = div-add-mod' q f in omega arith

part_within : (m r f : ℕ) → r < 4 → ((m / 256 ^ r) % f) * 256 ^ r ≤ m
part_within m =
    λ r f. by_four (λ r. ((m / 256 ^ r) % f) * 256 ^ r ≤ m)
    (let e = at_most (m / 1) f in omega arith) (let e = at_most (m / 256) f in omega arith)
    (let e = at_most (m / 65536) f in omega arith) (let e = at_most (m / 16777216) f in omega arith) r

pub changed : (m x r w : ℕ) → m < 4294967296 → x < 4294967296 → r < 4 → 0 < w → w < 4 → r + w ≤ 4 → Changed m x r w
changed m x r w hm hx hr lw hw s =
    let p = parts_by_scores m r w hm hr lw hw s in
    let a : ℕ = x % 256 ^ w in
    let b : ℕ = part_of m r w in
    let ha : a < 16777216 = rest_small x w lw hw in
    let hb : b < 16777216 = rest_small (m / 256 ^ r) w lw hw in
    let e : 256 ^ r < 2147483648 = power_small r hr in
    let d : ℕ = (a + (4294967296 - b)) % 4294967296 in
    let hd : d < 4294967296 = omega arith in
    let g : ℕ = (d * 256 ^ r) % 4294967296 in
    let hg : g < 4294967296 = omega arith in
    let same : 4 ≡ r + (w + (4 - (r + w))) = omega arith in
    let below : with_part m r w x < 4294967296 = with_part-below 4 r w (4 - (r + w)) m x same hm in
    let within : b * 256 ^ r ≤ m = part_within m r (256 ^ w) hr in
    record {
      quotient = p.0;
      divided = p.1;
      old = p.2;
      new = word_rest x w hx lw hw;
      difference = signed_word d;
      differs = ap₂ (λ y z. Some (wrapped (y -ℤ z))) (sym (score_low a (omega arith))) (sym (score_low b (omega arith)))
          ∙ ap Some (difference_of a b (omega arith) (omega arith));
      scaled = signed_word g;
      scales = ap (λ z. Some (wrapped (signed_word d *ℤ z))) (sym (score_low (256 ^ r) e))
          ∙ ap Some (product_of d (256 ^ r) hd (omega arith));
      added = ap Some (sum_of m g hm hg) ∙ ap (λ n. Some (signed_word n)) (turned m a b r hr hm within below);
    }

-- from the last byte on
pub last_changed : (m x : ℕ) → m < 4294967296 → with_part m 3 1 x ≡ first_with m 3 x
last_changed m x h = omega arith

-- ---- the first one of two words

pub record First (m x r : ℕ) : Type 0 where
  pub low : operate remainder (signed_word m) (pos (256 ^ r)) ≡ Some (pos (m % 256 ^ r))
  pub high : ℤ
  pub scales : operate multiply (signed_word x) (pos (256 ^ r)) ≡ Some high
  pub added : operate add (pos (m % 256 ^ r)) high ≡ Some (signed_word (first_with m r x))

first_sum : (m x r : ℕ) → 0 < r → r < 4 → (m % 256 ^ r + (x * 256 ^ r) % 4294967296) % 4294967296 ≡ first_with m r x
first_sum m x = by_three (λ r. (m % 256 ^ r + (x * 256 ^ r) % 4294967296) % 4294967296 ≡ first_with m r x) (omega arith) (omega arith) (omega arith)

pub first_word : (m x r : ℕ) → m < 4294967296 → x < 4294967296 → 0 < r → r < 4 → First m x r
first_word m x r hm hx l h =
    let e : 256 ^ r < 2147483648 = power_small r h in
    let k : m % 256 ^ r < 16777216 = rest_small m r l h in
    let g : ℕ = (x * 256 ^ r) % 4294967296 in
    let hg : g < 4294967296 = omega arith in
    record {
      low = word_rest m r hm l h;
      high = signed_word g;
      scales = ap (λ z. Some (wrapped (signed_word x *ℤ z))) (sym (score_low (256 ^ r) e))
          ∙ ap Some (product_of x (256 ^ r) hx (omega arith));
      added = ap (λ z. Some (wrapped (z +ℤ signed_word g))) (sym (score_low (m % 256 ^ r) (omega arith)))
          ∙ ap Some (sum_of (m % 256 ^ r) g (omega arith) hg) ∙ ap (λ n. Some (signed_word n)) (first_sum m x r l h);
    }

-- ---- the second one

pub record Second (n x k j : ℕ) : Type 0 where
  pub low : operate remainder (signed_word n) (pos (256 ^ k)) ≡ Some (pos (n % 256 ^ k))
  pub high : ℤ
  pub differs : operate subtract (signed_word n) (pos (n % 256 ^ k)) ≡ Some high
  pub quotient : ℤ
  pub divided : operate divide (signed_word x) (pos (256 ^ j)) ≡ Some quotient
  pub new : operate remainder quotient (pos (256 ^ k)) ≡ Some (pos (part_of x j k))
  pub added : operate add high (pos (part_of x j k)) ≡ Some (signed_word (with_part n 0 k (x / 256 ^ j)))

second_rest : (n k : ℕ) → n < 4294967296 → 0 < k → k < 4 → (n + (4294967296 - n % 256 ^ k)) % 4294967296 ≡ n - n % 256 ^ k
second_rest n k h = by_three (λ k. (n + (4294967296 - n % 256 ^ k)) % 4294967296 ≡ n - n % 256 ^ k) (omega arith) (omega arith) (omega arith) k

second_sum : (n y k : ℕ) → n < 4294967296 → 0 < k → k < 4 → ((n - n % 256 ^ k) + y % 256 ^ k) % 4294967296 ≡ with_part n 0 k y
second_sum n y k h = by_three (λ k. ((n - n % 256 ^ k) + y % 256 ^ k) % 4294967296 ≡ with_part n 0 k y) (omega arith) (omega arith) (omega arith) k

pub second_word : (n x k j : ℕ) → n < 4294967296 → x < 4294967296 → 0 < k → k < 4 → 0 < j → j + k ≤ 4 → Second n x k j
second_word n x k j hn hx l h lj s =
    let p = parts_by_scores x j k hx (omega arith) l h s in
    let a : n % 256 ^ k < 16777216 = rest_small n k l h in
    let b : part_of x j k < 16777216 = rest_small (x / 256 ^ j) k l h in
    record {
      low = word_rest n k hn l h;
      high = signed_word (n - n % 256 ^ k);
      differs = ap (λ z. Some (wrapped (signed_word n -ℤ z))) (sym (score_low (n % 256 ^ k) (omega arith)))
          ∙ ap Some (difference_of n (n % 256 ^ k) hn (omega arith)) ∙ ap (λ n. Some (signed_word n)) (second_rest n k hn l h);
      quotient = p.0;
      divided = p.1;
      new = p.2;
      added = ap (λ z. Some (wrapped (signed_word (n - n % 256 ^ k) +ℤ z))) (sym (score_low (part_of x j k) (omega arith)))
          ∙ ap Some (sum_of (n - n % 256 ^ k) (part_of x j k) (omega arith) (omega arith)) ∙ ap (λ n. Some (signed_word n)) (second_sum n (x / 256 ^ j) k hn l h);
    }
