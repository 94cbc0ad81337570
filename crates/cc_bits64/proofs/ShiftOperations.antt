-- Each shift and each rotation does what it is to do.
use Rattle.std.proofs.Common.{◌≡◌, ℕ, suc, ◌+◌, ◌-◌, ◌*◌, ◌/◌, ◌%◌, ◌^◌, ◌<◌, ◌≤◌, [], ◌∷◌, ◌++◌, FitsSigned, Some, Bool, true, false, unwrap_or, refl, sym, ap, ap₂, ◌∙◌, subst, arith, mod-lt, ⊎_elim, ◌⊎◌, inl, inr}
use Rattle.std.specs.Prelude.{ℤ, pos, negsuc, ◌*ℤ◌, ◌&&◌, if◌then◌else◌, codes}
use Rattle.std.specs.Int.{w32, w64, cast_signed, cast_unsigned, int_shr}
use Rattle.std.proofs.lemmas.Bool.{cases_lt, lt-leb, le-leb}
use Rattle.std.proofs.lemmas.Nat.{shr_le}
use mir.ValLaws.{of_z_fits}
use Rattle.mc_cmd.specs.Command.{from, up_to}
use Rattle.mc_cmd.specs.World.{wrapped, is_in, rest_by, floor_by}
use Rattle.wm_ast.specs.Integer.{ishl, ishr_s, ishr_u, irotl, irotr, rotated}
use Rattle.wm_ast.proofs.IntegerLaws.{unrotated, rotated_round}
use Rattle.cc_line.specs.declared.table.Table.TheVariants.{RotateLeft, RotateRight}
use Rattle.cc_line.specs.Key.{key_turn_left, key_turn_right}
use Rattle.cc_line.specs.Standing.{Standing}
use Rattle.cc_line.specs.Table.{power}
use Rattle.cc_line.specs.State.{State}
use Rattle.cc_line.specs.Item.{Items}
use Rattle.cc_line.specs.Routine.{Gives}
use Rattle.cc_line.proofs.TableLemmas.{rotate_left_table, rotate_right_table}
use Rattle.cc_line.proofs.Words.{score, by_sign, product_of, fits_score}
use Rattle.cc_line.proofs.Rests.{rest_pp, rest_np}
use Rattle.cc_bits.proofs.ShiftFacts.{half_of, fits_floor}
use Rattle.cc_bits64.specs.Shifting.{negate_count, word_left, word_right, word_right_signed, word_turned, shift_left, shift_right, shift_right_signed, turn_left, by_words, shl_items, shr_u_items, shr_s_items, rotl_items, rotr_items}
use Rattle.cc_bits64.proofs.Pairs.{pair}
use Rattle.cc_bits64.proofs.PairShifts.{joined, pair_shl, pair_shl_word, pair_shr, pair_shr_word, pair_shr_s, pair_shr_s_word, sign_word, sign_word_small, pair_turned, pair_turned_word}
use Rattle.cc_bits64.proofs.WordShifts.{over, stays, left_line, left_line_is, turn_line_is, rest, right_small, right_line, right_line_is, high_line, high_line_is, signed_line_is}
use Rattle.cc_bits64.proofs.Operands.{StandsAt, Makes}
use Rattle.cc_bits64.proofs.ShiftLemmas.{shift_gives}

-- ---- the count: modulo 64, whether it is a word or more, and the rest

abbrev count_of : ℤ → ℤ
count_of z = unwrap_or (rest_by z (pos 64)) z

abbrev is_far : ℤ → Bool
is_far z = is_in (from (pos 32)) (count_of z)

abbrev rest_of : ℤ → ℤ
rest_of z = unwrap_or (rest_by (count_of z) (pos 32)) (count_of z)

abbrev turn_of : ℕ → ℕ
turn_of m = m % 64 % 32

rest_64 : (m : ℕ) → m < 4294967296 → rest_by (score m) (pos 64) ≡ Some (pos (m % 64))
rest_64 = by_sign (λ m a. rest_by a (pos 64) ≡ Some (pos (m % 64)))
    (λ m h. rest_pp m 63) (λ k h. rest_np k 63 ∙ ap (λ n. Some (pos n)) (omega arith))

count_is : (m : ℕ) → m < 4294967296 → count_of (score m) ≡ pos (m % 64)
count_is m h = ap (λ o. unwrap_or o (score m)) (rest_64 m h)

rest_is : (m : ℕ) → m < 4294967296 → rest_of (score m) ≡ pos (turn_of m)
rest_is m h = ap (λ k. unwrap_or (rest_by k (pos 32)) k) (count_is m h) ∙ ap (λ o. unwrap_or o (pos (m % 64))) (rest_pp (m % 64) 31)

turn_small : (m : ℕ) → turn_of m < 32
turn_small m = mod-lt (m % 64) (omega arith)

-- below a word, or from a word on
abbrev Near : ℕ → Type 0
Near m = (is_far (score m) ≡ false) × (m % 64 ≡ turn_of m)

abbrev Far : ℕ → Type 0
Far m = (is_far (score m) ≡ true) × (m % 64 ≡ 32 + turn_of m)

near_or_far : (m : ℕ) → m < 4294967296 → Near m ⊎ Far m
near_or_far m h =
    ⊎_elim
    (λ l. inl (ap (is_in (from (pos 32))) (count_is m h) ∙ lt-leb 32 (m % 64) l, omega arith))
    (λ g. inr (ap (is_in (from (pos 32))) (count_is m h) ∙ le-leb 32 (m % 64) g, omega arith))
    (cases_lt (m % 64) 32)

-- the count's low word tells it
count_low : (n m : ℕ) → pair n m % 64 ≡ m % 64
count_low n m = omega arith

abbrev one_of : Bool → ℤ → ℤ → ℤ
one_of b x y = if b then x else y

-- ---- to the left

module _ (a : ℕ) (s : State) (h l n m : ℕ) (st : Standing false s) (one : StandsAt s a h l) (two : StandsAt s (suc (suc a)) n m) where
  -- h1 and l1 are the words after a count from 32 on has moved them
  shl_by : (h1 l1 : ℕ) → h1 < 4294967296 → l1 < 4294967296 → one_of (is_far (score m)) (pos 0) (score l) ≡ score l1 → one_of (is_far (score m)) (score l) (score h) ≡ score h1
      → ishl w64 (pair h l) (pair n m) ≡ pair ((h1 * 2 ^ turn_of m + (l1 * 2 ^ turn_of m) / 4294967296) % 4294967296) ((l1 * 2 ^ turn_of m) % 4294967296)
      → Makes (shl_items a) s a (ishl w64 (pair h l) (pair n m))
  shl_by h1 l1 p q el eh is =
      let r : ℕ = turn_of m in
      let lt : turn_of m < 32 = turn_small m in
      let v : ℤ = score (power r) in
      let w : ℤ = score (power (31 - r)) in
      let more = two.room in
      record {
        high = (h1 * 2 ^ turn_of m + (l1 * 2 ^ turn_of m) / 4294967296) % 4294967296;
        low = (l1 * 2 ^ turn_of m) % 4294967296;
        high_small = mod-lt (h1 * 2 ^ turn_of m + (l1 * 2 ^ turn_of m) / 4294967296) (omega arith);
        low_small = mod-lt (l1 * 2 ^ turn_of m) (omega arith);
        is = is;
        gives = shift_gives (codes "h_cc_bits64_left") key_turn_left RotateLeft (by_words word_left) shift_left a s (score l) (score h) (score m) r v w
            (score ((l1 * 2 ^ turn_of m) % 4294967296)) (score ((h1 * 2 ^ turn_of m + (l1 * 2 ^ turn_of m) / 4294967296) % 4294967296))
            st (λ u q c. c.turn_left) one.low_at one.high_at two.low_at (omega arith) lt (rotate_left_table r 0 lt (omega arith), rotate_left_table r 1 lt (omega arith))
            refl refl refl (ap Some (rest_is m two.low)) refl refl refl
            (ap Some (ap (λ x. wrapped (x *ℤ v)) el ∙ stays l1 r q lt))
            (ap Some (ap₂ (λ x y. left_line x y v w (rest_of (score m))) eh el ∙ ap (left_line (score h1) (score l1) v w) (rest_is m two.low) ∙ left_line_is h1 l1 r p q lt));
      }

  pub shl_make : Makes (shl_items a) s a (ishl w64 (pair h l) (pair n m))
  shl_make =
      let r : ℕ = turn_of m in
      ⊎_elim
      (λ (c : Near m).
      shl_by h l one.high one.low (ap (λ b. one_of b (pos 0) (score l)) c.0) (ap (λ b. one_of b (score l) (score h)) c.0)
      (ap (λ k. (pair h l * 2 ^ k) % 18446744073709551616) (count_low n m ∙ c.1) ∙ pair_shl h l r one.low))
      (λ (c : Far m).
      shl_by l 0 one.low (omega arith) (ap (λ b. one_of b (pos 0) (score l)) c.0) (ap (λ b. one_of b (score l) (score h)) c.0)
      (ap (λ k. (pair h l * 2 ^ k) % 18446744073709551616) (count_low n m ∙ c.1) ∙ pair_shl_word h l r ∙ ap₂ pair (omega arith) (omega arith)))
      (near_or_far m two.low)

  -- ---- to the right with zeros

  shr_u_by : (h1 l1 : ℕ) → h1 < 4294967296 → l1 < 4294967296 → one_of (is_far (score m)) (score h) (score l) ≡ score l1 → one_of (is_far (score m)) (pos 0) (score h) ≡ score h1
      → ishr_u w64 (pair h l) (pair n m) ≡ pair (h1 / 2 ^ turn_of m) (l1 / 2 ^ turn_of m + (h1 * 2 ^ (32 - turn_of m)) % 4294967296)
      → Makes (shr_u_items a) s a (ishr_u w64 (pair h l) (pair n m))
  shr_u_by h1 l1 p q el eh is =
      let r : ℕ = turn_of m in
      let lt : turn_of m < 32 = turn_small m in
      let v : ℤ = score (power (rest r)) in
      let w : ℤ = score (power (31 - rest r)) in
      let more = two.room in
      record {
        high = h1 / 2 ^ turn_of m;
        low = l1 / 2 ^ turn_of m + (h1 * 2 ^ (32 - turn_of m)) % 4294967296;
        high_small = omega (arith, shr_le h1 (turn_of m));
        low_small = right_small h1 l1 r p q lt;
        is = is;
        gives = shift_gives (codes "h_cc_bits64_right") key_turn_right RotateRight (by_words word_right) shift_right a s (score l) (score h) (score m) r v w
            (score (l1 / 2 ^ turn_of m + (h1 * 2 ^ (32 - turn_of m)) % 4294967296)) (score (h1 / 2 ^ turn_of m))
            st (λ u q c. c.turn_right) one.low_at one.high_at two.low_at (omega arith) lt (rotate_right_table r 0 lt (omega arith), rotate_right_table r 1 lt (omega arith))
            refl refl refl (ap Some (rest_is m two.low)) refl refl refl
            (ap Some (ap₂ (λ x y. right_line x y v w (rest_of (score m))) el eh ∙ ap (right_line (score l1) (score h1) v w) (rest_is m two.low) ∙ right_line_is h1 l1 r p q lt))
            (ap Some (ap (λ y. high_line y v (over (half_of y) w) (rest_of (score m))) eh ∙ ap (high_line (score h1) v (over (half_of (score h1)) w)) (rest_is m two.low) ∙ high_line_is h1 r p lt));
      }

  pub shr_u_make : Makes (shr_u_items a) s a (ishr_u w64 (pair h l) (pair n m))
  shr_u_make =
      let r : ℕ = turn_of m in
      let lt : turn_of m < 32 = turn_small m in
      let e : 32 - r + r ≡ 32 = omega arith in
      let word : h ≡ pair 0 h = omega arith in
      ⊎_elim
      (λ (c : Near m).
      shr_u_by h l one.high one.low (ap (λ b. one_of b (score h) (score l)) c.0) (ap (λ b. one_of b (pos 0) (score h)) c.0)
      (ap (λ k. pair h l / 2 ^ k) (count_low n m ∙ c.1) ∙ pair_shr h l r (32 - r) e one.low))
      (λ (c : Far m).
      shr_u_by 0 h (omega arith) one.high (ap (λ b. one_of b (score h) (score l)) c.0) (ap (λ b. one_of b (pos 0) (score h)) c.0)
      (ap (λ k. pair h l / 2 ^ k) (count_low n m ∙ c.1) ∙ pair_shr_word h l r one.low ∙ ap (λ x. x / 2 ^ r) word ∙ pair_shr 0 h r (32 - r) e one.high))
      (near_or_far m two.low)

  -- ---- to the right with the sign

  abbrev cleared : Bool → ℤ → ℤ
  cleared b y = one_of (b && is_in (from (pos 0)) y) (pos 0) y

  abbrev signed : Bool → ℤ → ℤ
  signed b y = one_of (b && is_in (up_to (negsuc 0)) (cleared b y)) (negsuc 0) (cleared b y)

  signed_is : signed true (score h) ≡ score (sign_word h)
  signed_is = by_sign (λ x y. signed true y ≡ score (sign_word x))
      (λ x g. ap (λ b. one_of (is_in (up_to (negsuc 0)) (one_of b (pos 0) (pos x))) (negsuc 0) (one_of b (pos 0) (pos x))) (le-leb 0 x (omega arith)) ∙ ap (λ b. score (if b then 4294967295 else 0)) (sym (lt-leb 2147483648 x g)))
      (λ k g. ap (λ b. one_of b (negsuc 0) (negsuc k)) (le-leb 0 k (omega arith)) ∙ ap (λ b. score (if b then 4294967295 else 0)) (sym (le-leb 2147483648 (4294967295 - k) (omega arith))))
      h one.high

  shifted_small : (x r : ℕ) → x < 4294967296 → cast_unsigned w32 (int_shr (score x) r) < 4294967296
  shifted_small x r g = (of_z_fits w32 (int_shr (score x) r) (subst (FitsSigned w32) (as_shift (score x) r) (fits_floor (score x) (2 ^ r) (fits_score x g)))).fits
    where
      as_shift : (z : ℤ) (k : ℕ) → floor_by z (2 ^ k) ≡ int_shr z k
      as_shift (pos i) k = refl
      as_shift (negsuc i) k = refl

  shr_s_by : (h1 l1 : ℕ) → h1 < 4294967296 → l1 < 4294967296 → one_of (is_far (score m)) (score h) (score l) ≡ score l1 → signed (is_far (score m)) (score h) ≡ score h1
      → ishr_s w64 (pair h l) (pair n m) ≡ pair (cast_unsigned w32 (int_shr (score h1) (turn_of m))) (l1 / 2 ^ turn_of m + (h1 * 2 ^ (32 - turn_of m)) % 4294967296)
      → Makes (shr_s_items a) s a (ishr_s w64 (pair h l) (pair n m))
  shr_s_by h1 l1 p q el eh is =
      let r : ℕ = turn_of m in
      let lt : turn_of m < 32 = turn_small m in
      let v : ℤ = score (power (rest r)) in
      let w : ℤ = score (power (31 - rest r)) in
      let more = two.room in
      record {
        high = cast_unsigned w32 (int_shr (score h1) (turn_of m));
        low = l1 / 2 ^ turn_of m + (h1 * 2 ^ (32 - turn_of m)) % 4294967296;
        high_small = shifted_small h1 r p;
        low_small = right_small h1 l1 r p q lt;
        is = is;
        gives = shift_gives (codes "h_cc_bits64_right") key_turn_right RotateRight (by_words word_right_signed) shift_right_signed a s (score l) (score h) (score m) r v w
            (score (l1 / 2 ^ turn_of m + (h1 * 2 ^ (32 - turn_of m)) % 4294967296)) (score (cast_unsigned w32 (int_shr (score h1) (turn_of m))))
            st (λ u q c. c.turn_right) one.low_at one.high_at two.low_at (omega arith) lt (rotate_right_table r 0 lt (omega arith), rotate_right_table r 1 lt (omega arith))
            refl refl refl (ap Some (rest_is m two.low)) refl refl refl
            (ap Some (ap₂ (λ x y. right_line x y v w (rest_of (score m))) el eh ∙ ap (right_line (score l1) (score h1) v w) (rest_is m two.low) ∙ right_line_is h1 l1 r p q lt))
            (ap Some (ap (λ y. high_line y v (over (wrapped (floor_by y 2)) w) (rest_of (score m))) eh ∙ ap (high_line (score h1) v (over (wrapped (floor_by (score h1) 2)) w)) (rest_is m two.low) ∙ signed_line_is h1 r p lt));
      }

  pub shr_s_make : Makes (shr_s_items a) s a (ishr_s w64 (pair h l) (pair n m))
  shr_s_make =
      let r : ℕ = turn_of m in
      let lt : turn_of m < 32 = turn_small m in
      let e : 32 - r + r ≡ 32 = omega arith in
      ⊎_elim
      (λ (c : Near m).
      shr_s_by h l one.high one.low (ap (λ b. one_of b (score h) (score l)) c.0) (ap (λ b. signed b (score h)) c.0)
      (ap (λ k. cast_unsigned w64 (int_shr (cast_signed w64 (pair h l)) k)) (count_low n m ∙ c.1) ∙ pair_shr_s h l r (32 - r) one.high one.low e))
      (λ (c : Far m).
      shr_s_by (sign_word h) h (sign_word_small h) one.high (ap (λ b. one_of b (score h) (score l)) c.0) (ap (λ b. signed b (score h)) c.0 ∙ signed_is)
      (ap (λ k. cast_unsigned w64 (int_shr (cast_signed w64 (pair h l)) k)) (count_low n m ∙ c.1) ∙ pair_shr_s_word h l r one.high one.low ∙ pair_shr_s (sign_word h) h r (32 - r) (sign_word_small h) one.high e))
      (near_or_far m two.low)

  -- ---- rotations to the left by a count c

  abbrev low_word : ℤ → ℤ
  low_word z = one_of (is_far z) (score h) (score l)

  abbrev high_word : ℤ → ℤ
  high_word z = one_of (is_far z) (score l) (score h)

  -- the words after a count from 32 on has changed their places
  record Turned (c i : ℕ) : Type 0 where
    h1 : ℕ
    l1 : ℕ
    high_small : h1 < 4294967296
    low_small : l1 < 4294967296
    low_is : low_word (score c) ≡ score l1
    high_is : high_word (score c) ≡ score h1
    is : i ≡ rotated w64 (pair h1 l1) (turn_of c)

  turned_words : (c i : ℕ) → c < 4294967296 → i ≡ rotated w64 (pair h l) (c % 64) → Turned c i
  turned_words c i lt e =
      ⊎_elim
      (λ (k : Near c). record {
        h1 = h;
        l1 = l;
        high_small = one.high;
        low_small = one.low;
        low_is = ap (λ b. one_of b (score h) (score l)) k.0;
        high_is = ap (λ b. one_of b (score l) (score h)) k.0;
        is = e ∙ ap (rotated w64 (pair h l)) k.1;
      })
      (λ (k : Far c). record {
        h1 = l;
        l1 = h;
        high_small = one.low;
        low_small = one.high;
        low_is = ap (λ b. one_of b (score h) (score l)) k.0;
        high_is = ap (λ b. one_of b (score l) (score h)) k.0;
        is = e ∙ ap (rotated w64 (pair h l)) k.1 ∙ pair_turned_word h l (turn_of c) one.high one.low (turn_small c);
      })
      (near_or_far c lt)

  -- what the lines make of them
  abbrev turned_low : (c i : ℕ) → Turned c i → ℕ
  turned_low c i t = (t.l1 * 2 ^ turn_of c) % 4294967296 + (t.h1 * 2 ^ turn_of c) / 4294967296

  abbrev turned_high : (c i : ℕ) → Turned c i → ℕ
  turned_high c i t = (t.h1 * 2 ^ turn_of c) % 4294967296 + (t.l1 * 2 ^ turn_of c) / 4294967296

  low_turned : (z : ℤ) (c i : ℕ) (t : Turned c i) → c < 4294967296 → z ≡ score c
      → left_line (low_word z) (high_word z) (score (power (turn_of c))) (score (power (31 - turn_of c))) (rest_of z) ≡ score (turned_low c i t)
  low_turned z c i t lt e =
      let v : ℤ = score (power (turn_of c)) in
      let w : ℤ = score (power (31 - turn_of c)) in
      ap (λ x. left_line (low_word x) (high_word x) v w (rest_of x)) e
      ∙ ap₂ (λ x y. left_line x y v w (rest_of (score c))) t.low_is t.high_is
      ∙ ap (left_line (score t.l1) (score t.h1) v w) (rest_is c lt)
      ∙ turn_line_is t.l1 t.h1 (turn_of c) t.low_small t.high_small (turn_small c)

  high_turned : (z : ℤ) (c i : ℕ) (t : Turned c i) → c < 4294967296 → z ≡ score c
      → left_line (high_word z) (low_word z) (score (power (turn_of c))) (score (power (31 - turn_of c))) (rest_of z) ≡ score (turned_high c i t)
  high_turned z c i t lt e =
      let v : ℤ = score (power (turn_of c)) in
      let w : ℤ = score (power (31 - turn_of c)) in
      ap (λ x. left_line (high_word x) (low_word x) v w (rest_of x)) e
      ∙ ap₂ (λ x y. left_line x y v w (rest_of (score c))) t.high_is t.low_is
      ∙ ap (left_line (score t.h1) (score t.l1) v w) (rest_is c lt)
      ∙ turn_line_is t.h1 t.l1 (turn_of c) t.high_small t.low_small (turn_small c)

  turned : (xs : Items) (c i : ℕ) (t : Turned c i) → Gives xs s a (score (turned_low c i t) ∷ (score (turned_high c i t) ∷ [])) → Makes xs s a i
  turned xs c i t g =
      let lt : turn_of c ≤ 32 = omega (arith, turn_small c) in
      record {
        high = turned_high c i t;
        low = turned_low c i t;
        high_small = joined t.h1 t.l1 (turn_of c) t.high_small t.low_small lt;
        low_small = joined t.l1 t.h1 (turn_of c) t.low_small t.high_small lt;
        is = t.is ∙ pair_turned t.h1 t.l1 (turn_of c) t.high_small t.low_small (turn_small c);
        gives = g;
      }

  pub rotl_make : Makes (rotl_items a) s a (irotl w64 (pair h l) (pair n m))
  rotl_make =
      let i : ℕ = irotl w64 (pair h l) (pair n m) in
      let t : Turned m i = turned_words m i two.low (ap (rotated w64 (pair h l)) (count_low n m)) in
      let r : ℕ = turn_of m in
      let lt : turn_of m < 32 = turn_small m in
      let more = two.room in
      turned (rotl_items a) m i t
      (shift_gives (codes "h_cc_bits64_left") key_turn_left RotateLeft (by_words word_turned) turn_left a s (score l) (score h) (score m) r (score (power r)) (score (power (31 - r)))
      (score (turned_low m i t)) (score (turned_high m i t))
      st (λ u q c. c.turn_left) one.low_at one.high_at two.low_at (omega arith) lt (rotate_left_table r 0 lt (omega arith), rotate_left_table r 1 lt (omega arith))
      refl refl refl (ap Some (rest_is m two.low)) refl refl refl
      (ap Some (low_turned (score m) m i t two.low refl)) (ap Some (high_turned (score m) m i t two.low refl)))

  -- to the right it is one to the left by the count negated
  abbrev opposite : ℕ
  opposite = (m * 4294967295) % 4294967296

  right_is : irotr w64 (pair h l) (pair n m) ≡ rotated w64 (pair h l) (opposite % 64)
  right_is =
      let e : pair n m % 64 ≡ m % 64 = count_low n m in
      let small : pair h l < 18446744073709551616 = omega (arith, one.high, one.low) in
      ⊎_elim
      (λ z.
      let whole : 64 - pair n m % 64 ≡ 64 = omega arith in
      let none : (m * 4294967295) % 4294967296 % 64 ≡ 0 = omega arith in
      ap (rotated w64 (pair h l)) whole ∙ rotated_round (pair h l) 64 ∙ sym (unrotated (pair h l) 64 small) ∙ ap (rotated w64 (pair h l)) (sym none))
      (λ p. ap (rotated w64 (pair h l)) (omega arith))
      (cases_lt (m % 64) 1)

  pub rotr_make : Makes (rotr_items a) s a (irotr w64 (pair h l) (pair n m))
  rotr_make =
      let i : ℕ = irotr w64 (pair h l) (pair n m) in
      let c : ℕ = opposite in
      let small : opposite < 4294967296 = mod-lt (m * 4294967295) (omega arith) in
      let z : ℤ = wrapped (score m *ℤ negsuc 0) in
      let ez : wrapped (score m *ℤ negsuc 0) ≡ score opposite = product_of m 4294967295 two.low (omega arith) in
      let t : Turned c i = turned_words c i small right_is in
      let r : ℕ = turn_of c in
      let lt : turn_of c < 32 = turn_small c in
      let more = two.room in
      turned (rotr_items a) c i t
      (shift_gives (codes "h_cc_bits64_left") key_turn_left RotateLeft (negate_count ++ by_words word_turned) turn_left a s (score l) (score h) (score m) r (score (power r)) (score (power (31 - r)))
      (score (turned_low c i t)) (score (turned_high c i t))
      st (λ u q c. c.turn_left) one.low_at one.high_at two.low_at (omega arith) lt (rotate_left_table r 0 lt (omega arith), rotate_left_table r 1 lt (omega arith))
      refl refl refl (ap Some (ap rest_of ez ∙ rest_is c small)) refl refl refl
      (ap Some (low_turned z c i t small ez)) (ap Some (high_turned z c i t small ez)))
