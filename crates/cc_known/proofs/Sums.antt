-- And of numbers as a sum of rests by powers of two, with and without what is above.
use Rattle.std.proofs.Common.{◌≡◌, ℕ, suc, ◌+◌, ◌-◌, ◌*◌, ◌%◌, ◌^◌, ◌<◌, Bool, true, false, min, arith, sym, ap, ap₂, ◌∙◌, mod-lt}
use Rattle.std.specs.Prelude.{bit_and}
use Rattle.std.specs.Int.{bit_at}
use Rattle.std.proofs.lemmas.Nat.{and_mod, mod-pow-add, pow_pos, pow_below}
use Rattle.std.proofs.lemmas.Nat.Bits.{bit_at_and, bit_at-lt}
use Rattle.std.proofs.Math.Pow.{mod-mod-pow}

-- ---- one bit more

one_up : (p : ℕ) → suc p ≡ 1 + p
one_up p = omega arith

pub next_rest : (n p : ℕ) → n % 2 ^ suc p ≡ bit_at n p * 2 ^ p + n % 2 ^ p
next_rest n p = ap (λ j. n % 2 ^ j) (one_up p) ∙ mod-pow-add n 1 p

shorter_rest : (n p : ℕ) → n % 2 ^ suc p % 2 ^ p ≡ n % 2 ^ p
shorter_rest n p = ap (λ j. n % 2 ^ j % 2 ^ p) (one_up p) ∙ mod-mod-pow n 1 p

shorter_and : (v n p : ℕ) → bit_and (v % 2 ^ suc p) n % 2 ^ p ≡ bit_and v n % 2 ^ p
shorter_and v n p = and_mod (v % 2 ^ suc p) n p ∙ ap (λ x. bit_and x (n % 2 ^ p)) (shorter_rest v p) ∙ sym (and_mod v n p)

min_none : (x : ℕ) → min x 0 ≡ 0
min_none x = omega arith

min_one : (x : ℕ) → x < 2 → min x 1 ≡ x
min_one x h = omega arith

-- where the bit of n is 0, and where it is 1
and_none : (v n p : ℕ) → bit_at n p ≡ 0 → bit_and v n % 2 ^ suc p ≡ bit_and v n % 2 ^ p
and_none v n p e =
    let z : bit_at (bit_and v n) p ≡ 0 = bit_at_and v n p ∙ ap (min (bit_at v p)) e ∙ min_none (bit_at v p) in
    next_rest (bit_and v n) p ∙ ap (λ b. b * 2 ^ p + bit_and v n % 2 ^ p) z ∙ (let r : 0 * 2 ^ p + bit_and v n % 2 ^ p ≡ bit_and v n % 2 ^ p = omega arith in r)

pub and_whole : (v n p : ℕ) → bit_at n p ≡ 1 → bit_and v n % 2 ^ suc p ≡ bit_at v p * 2 ^ p + bit_and v n % 2 ^ p
and_whole v n p e =
    let z : bit_at (bit_and v n) p ≡ bit_at v p = bit_at_and v n p ∙ ap (min (bit_at v p)) e ∙ min_one (bit_at v p) (bit_at-lt v p) in
    next_rest (bit_and v n) p ∙ ap (λ b. b * 2 ^ p + bit_and v n % 2 ^ p) z

-- ---- sums

-- what the rests of v below the place p come to, under ones of n, and under zeros
abbrev pub sum_value : Bool → ℕ → ℕ → ℕ → ℕ
sum_value true p n v = bit_and v n % 2 ^ p + (4294967296 - v % 2 ^ p)
sum_value false p n v = bit_and v n % 2 ^ p

abbrev pub times : Bool → ℕ → ℕ
times false x = x
times true x = x + x

-- a word with that, once or twice
abbrev pub amount : Bool → Bool → ℕ → ℕ → ℕ → ℕ → ℕ
amount twice ones p n a v = (a + times twice (sum_value ones p n v)) % 4294967296

abbrev pub changed_once : Bool → ℕ → ℕ → ℕ
changed_once true a v = (a + (4294967296 - v)) % 4294967296
changed_once false a v = (a + v) % 4294967296

abbrev pub changed : Bool → Bool → ℕ → ℕ → ℕ
changed false less a v = changed_once less a v
changed true less a v = changed_once less (changed_once less a v) v

pub rest_below : (v p : ℕ) → p < 32 → v % 2 ^ p < 4294967296
rest_below v p h = let a : v % 2 ^ p < 2 ^ p = mod-lt v (pow_pos p) in let b : 2 ^ p < 4294967296 = pow_below p 32 h in omega (arith, a, b)

-- ---- a place that changes nothing

pub kept_under_ones : (p n v : ℕ) → suc p < 32 → bit_at n p ≡ 1 → sum_value true (suc p) n v ≡ sum_value true p n v
kept_under_ones p n v h e =
    let t : ℕ = bit_at v p * 2 ^ p in
    let a : bit_and v n % 2 ^ suc p ≡ t + bit_and v n % 2 ^ p = and_whole v n p e in
    let b : v % 2 ^ suc p ≡ t + v % 2 ^ p = next_rest v p in
    let c : v % 2 ^ suc p < 4294967296 = rest_below v (suc p) h in
    same (bit_and v n % 2 ^ suc p) (bit_and v n % 2 ^ p) t (v % 2 ^ suc p) (v % 2 ^ p) a b c
  where
    same : (l' l t r' r : ℕ) → l' ≡ t + l → r' ≡ t + r → r' < 4294967296 → l' + (4294967296 - r') ≡ l + (4294967296 - r)
    same l' l t r' r a b c = omega arith

pub kept_under_zeros : (p n v : ℕ) → bit_at n p ≡ 0 → sum_value false (suc p) n v ≡ sum_value false p n v
kept_under_zeros p n v e = and_none v n p e

-- ---- a place where the bits change

less_then : (twice : Bool) (a l v : ℕ) → (changed twice true a v + times twice l) % 4294967296 ≡ (a + times twice (l + (4294967296 - v))) % 4294967296
less_then false a l v = omega arith
less_then true a l v = omega arith

more_then : (twice : Bool) (a l t r : ℕ) → r < 4294967296 → (changed twice false a (t + r) + times twice (l + (4294967296 - r))) % 4294967296 ≡ (a + times twice (t + l)) % 4294967296
more_then false a l t r h = omega arith
more_then true a l t r h = omega arith

pub part_of_ones : (twice : Bool) (p n a v : ℕ) → bit_at n p ≡ 0
    → amount twice false p n (changed twice true a (v % 2 ^ suc p)) (v % 2 ^ suc p) ≡ amount twice true (suc p) n a v
part_of_ones twice p n a v e =
    ap (λ l. (changed twice true a (v % 2 ^ suc p) + times twice l) % 4294967296) (shorter_and v n p ∙ sym (and_none v n p e))
    ∙ less_then twice a (bit_and v n % 2 ^ suc p) (v % 2 ^ suc p)

pub part_of_zeros : (twice : Bool) (p n a v : ℕ) → suc p < 32 → bit_at n p ≡ 1
    → amount twice true p n (changed twice false a (v % 2 ^ suc p)) (v % 2 ^ suc p) ≡ amount twice false (suc p) n a v
part_of_zeros twice p n a v h e =
    let below : v % 2 ^ p < 4294967296 = rest_below v p (omega arith) in
    ap₂ (λ l r. (changed twice false a (v % 2 ^ suc p) + times twice (l + (4294967296 - r))) % 4294967296) (shorter_and v n p) (shorter_rest v p)
    ∙ ap (λ x. (changed twice false a x + times twice (bit_and v n % 2 ^ p + (4294967296 - v % 2 ^ p))) % 4294967296) (next_rest v p)
    ∙ more_then twice a (bit_and v n % 2 ^ p) (bit_at v p * 2 ^ p) (v % 2 ^ p) below
    ∙ ap (λ l. (a + times twice l) % 4294967296) (sym (and_whole v n p e))
