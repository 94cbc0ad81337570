-- What loads make of words, by the operations of scores: with a sign by a product that wraps and a quotient rounded down.
use Rattle.std.proofs.Common.{◌≡◌, ◌<◌, ◌≤◌, ℕ, suc, ◌+◌, ◌*◌, ◌-◌, ◌/◌, ◌%◌, ◌^◌, Some}
use Rattle.std.proofs.Common.{Bool, true, false, refl, sym, ap, ◌∙◌, arith}
use Rattle.std.specs.Prelude.{ℤ, pos, negsuc, ◌-ℤ◌, ◌*ℤ◌, nat_lt, if◌then◌else◌}
use Rattle.std.specs.Int.{w8, w16, w32, cast_signed}
use Rattle.std.specs.Int.RustNames.{FitsSigned}
use Rattle.std.proofs.lemmas.Int.{ints, int_wrap_fits, to_z-of_z, wrapping_mul-bits}
use Rattle.std.proofs.lemmas.Bool.{lt-ltb, le-ltb, ltb-true, ltb-false, le-leb, lt-leb}
use Rattle.mc_cmd.specs.Command.{add, subtract, multiply, divide, remainder, from}
use Rattle.mc_cmd.specs.World.{wrapped, operate, some_is_in}
use Rattle.wm_ast.specs.Integer.{extend_s}
use Rattle.cc_page.specs.Pages.{signed_word, part_of, glued}
use Rattle.cc_page.proofs.Scores.{score_low, score_high, parts_by_scores}
use Rattle.cc_mem.proofs.WordSums.{by_four, word_rest}

-- ---- words as scores

unwrapped : (n : ℕ) → n < 2147483648 → wrapped (pos n) ≡ pos n
unwrapped n l = int_wrap_fits w32 (pos n) (record { sfits = l })

unwrapped_below : (n : ℕ) → n < 2147483648 → wrapped (negsuc n) ≡ negsuc n
unwrapped_below n l = int_wrap_fits w32 (negsuc n) (record { sfits = l })

-- ---- signed bytes and pairs of bytes

low_byte : (b : ℕ) → b < 128 → cast_signed w8 b ≡ pos b
low_byte b h = ap (λ t. if t then pos b else negsuc (256 - suc b)) (lt-ltb b 128 h)

high_byte : (b : ℕ) → 128 ≤ b → cast_signed w8 b ≡ negsuc (256 - suc b)
high_byte b h = ap (λ t. if t then pos b else negsuc (256 - suc b)) (le-ltb b 128 h)

low_half : (b : ℕ) → b < 32768 → cast_signed w16 b ≡ pos b
low_half b h = ap (λ t. if t then pos b else negsuc (65536 - suc b)) (lt-ltb b 32768 h)

high_half : (b : ℕ) → 32768 ≤ b → cast_signed w16 b ≡ negsuc (65536 - suc b)
high_half b h = ap (λ t. if t then pos b else negsuc (65536 - suc b)) (le-ltb b 32768 h)

fits_byte : (b : ℕ) → FitsSigned w32 (cast_signed w8 b)
fits_byte b = go (nat_lt b 128) refl
  where
    go : (t : Bool) → nat_lt b 128 ≡ t → FitsSigned w32 (if t then pos b else negsuc (256 - suc b))
    go true e = let l = ltb-true b 128 e in record { sfits = omega arith }
    go false e = record { sfits = omega arith }

fits_half : (b : ℕ) → FitsSigned w32 (cast_signed w16 b)
fits_half b = go (nat_lt b 32768) refl
  where
    go : (t : Bool) → nat_lt b 32768 ≡ t → FitsSigned w32 (if t then pos b else negsuc (65536 - suc b))
    go true e = let l = ltb-true b 32768 e in record { sfits = omega arith }
    go false e = record { sfits = omega arith }

-- ---- the top of a word, as a signed number

top_byte : (j : ℕ) → j < 4294967296 → operate divide (signed_word j) (pos 16777216) ≡ Some (cast_signed w8 (j / 16777216))
top_byte j h = go (nat_lt j 2147483648) refl
  where
    go : (t : Bool) → nat_lt j 2147483648 ≡ t → operate divide (signed_word j) (pos 16777216) ≡ Some (cast_signed w8 (j / 16777216))
    go true e =
        let l = ltb-true j 2147483648 e in
        ap (λ z. operate divide z (pos 16777216)) (score_low j l)
        ∙ ap Some (unwrapped (j / 16777216) (omega arith))
        ∙ ap Some (sym (low_byte (j / 16777216) (omega arith)))
    go false e =
        let l = ltb-false j 2147483648 e in
        let f : (4294967296 - suc j) / 16777216 ≡ 256 - suc (j / 16777216) = omega arith in
        ap (λ z. operate divide z (pos 16777216)) (score_high j l)
        ∙ ap Some (unwrapped_below ((4294967296 - suc j) / 16777216) (omega arith))
        ∙ ap (λ n. Some (negsuc n)) f
        ∙ ap Some (sym (high_byte (j / 16777216) (omega arith)))

top_half : (j : ℕ) → j < 4294967296 → operate divide (signed_word j) (pos 65536) ≡ Some (cast_signed w16 (j / 65536))
top_half j h = go (nat_lt j 2147483648) refl
  where
    go : (t : Bool) → nat_lt j 2147483648 ≡ t → operate divide (signed_word j) (pos 65536) ≡ Some (cast_signed w16 (j / 65536))
    go true e =
        let l = ltb-true j 2147483648 e in
        ap (λ z. operate divide z (pos 65536)) (score_low j l)
        ∙ ap Some (unwrapped (j / 65536) (omega arith))
        ∙ ap Some (sym (low_half (j / 65536) (omega arith)))
    go false e =
        let l = ltb-false j 2147483648 e in
        let f : (4294967296 - suc j) / 65536 ≡ 65536 - suc (j / 65536) = omega arith in
        ap (λ z. operate divide z (pos 65536)) (score_high j l)
        ∙ ap Some (unwrapped_below ((4294967296 - suc j) / 65536) (omega arith))
        ∙ ap (λ n. Some (negsuc n)) f
        ∙ ap Some (sym (high_half (j / 65536) (omega arith)))

-- a product of a word
multiplied : (m e : ℕ) → m < 4294967296 → e < 2147483648 → operate multiply (signed_word m) (pos e) ≡ Some (signed_word ((m * e) % 4294967296))
multiplied m e h l =
    ap (λ z. Some (wrapped (signed_word m *ℤ z))) (sym (score_low e l)) ∙ ap Some (sym (wrapping_mul-bits w32 m e h (omega arith)))

-- a byte with its sign
pub record SignedByte (m r : ℕ) : Type 0 where
  pub raised : ℤ
  pub multiplies : operate multiply (signed_word m) (pos (256 ^ (3 - r))) ≡ Some raised
  pub divides : operate divide raised (pos (256 ^ 3)) ≡ Some (cast_signed w32 (extend_s w8 w32 (part_of m r 1)))

pub signed_byte : (m r : ℕ) → m < 4294967296 → r < 4 → SignedByte m r
signed_byte m r h l =
    let j : ℕ = (m * 256 ^ (3 - r)) % 4294967296 in
    let e : j / 16777216 ≡ part_of m r 1 =
    by_four (λ r. ((m * 256 ^ (3 - r)) % 4294967296) / 16777216 ≡ part_of m r 1) (omega arith) (omega arith) (omega arith) (omega arith) r l in
    let k : 256 ^ (3 - r) < 2147483648 = by_four (λ r. 256 ^ (3 - r) < 2147483648) (omega arith) (omega arith) (omega arith) (omega arith) r l in
    record {
      raised = signed_word j;
      multiplies = multiplied m (256 ^ (3 - r)) h k;
      divides = top_byte j (omega arith) ∙ ap (λ b. Some (cast_signed w8 b)) e ∙ ap Some (sym (to_z-of_z w32 (cast_signed w8 (part_of m r 1)) (fits_byte (part_of m r 1))));
    }

-- two bytes within a word with their sign
pub record SignedHalf (m r : ℕ) : Type 0 where
  pub raised : ℤ
  pub multiplies : operate multiply (signed_word m) (pos (256 ^ (2 - r))) ≡ Some raised
  pub divides : operate divide raised (pos (256 ^ 2)) ≡ Some (cast_signed w32 (extend_s w16 w32 (part_of m r 2)))

pub signed_half : (m r : ℕ) → m < 4294967296 → r < 3 → SignedHalf m r
signed_half m r h l =
    let j : ℕ = (m * 256 ^ (2 - r)) % 4294967296 in
    let e : r < 3 → ((m * 256 ^ (2 - r)) % 4294967296) / 65536 ≡ part_of m r 2 =
    by_four (λ r. r < 3 → ((m * 256 ^ (2 - r)) % 4294967296) / 65536 ≡ part_of m r 2) (λ l. omega arith) (λ l. omega arith) (λ l. omega arith) (λ l. absurd (omega arith)) r (omega arith) in
    let k : 256 ^ (2 - r) < 2147483648 = by_four (λ r. 256 ^ (2 - r) < 2147483648) (omega arith) (omega arith) (omega arith) (omega arith) r (omega arith) in
    record {
      raised = signed_word j;
      multiplies = multiplied m (256 ^ (2 - r)) h k;
      divides = top_half j (omega arith) ∙ ap (λ b. Some (cast_signed w16 b)) (e l) ∙ ap Some (sym (to_z-of_z w32 (cast_signed w16 (part_of m r 2)) (fits_half (part_of m r 2))));
    }

-- ---- bytes without sign

pub unsigned_part : (m r : ℕ) → cast_signed w32 (part_of m r 1) ≡ pos (part_of m r 1)
unsigned_part m r = score_low (part_of m r 1) (omega arith)

pub unsigned_half : (m r : ℕ) → cast_signed w32 (part_of m r 2) ≡ pos (part_of m r 2)
unsigned_half m r = score_low (part_of m r 2) (omega arith)

pub whole_word : (m : ℕ) → m < 4294967296 → cast_signed w32 (part_of m 0 4) ≡ signed_word m
whole_word m h = let e : part_of m 0 4 ≡ m = omega arith in ap signed_word e

-- ---- two bytes over two words

pub record OverHalf (m n : ℕ) : Type 0 where
  pub quotient : ℤ
  pub divides : operate divide (signed_word m) (pos (256 ^ 3)) ≡ Some quotient
  pub low : ℤ
  pub rests : operate remainder quotient (pos (256 ^ 1)) ≡ Some low
  pub high : ℤ
  pub cuts : operate remainder (signed_word n) (pos (256 ^ 1)) ≡ Some high
  pub raised : ℤ
  pub raises : operate multiply high (pos (256 ^ 1)) ≡ Some raised
  pub adds : operate add low raised ≡ Some (pos (glued m n 3 2))

pub over_half : (m n : ℕ) → m < 4294967296 → n < 4294967296 → OverHalf m n
over_half m n h l =
    let p = parts_by_scores m 3 1 h (omega arith) (omega arith) (omega arith) (omega arith) in
    let e : part_of m 3 1 + (n % 256) * 256 ≡ glued m n 3 2 = omega arith in
    record {
      quotient = p.0;
      divides = p.1;
      low = pos (part_of m 3 1);
      rests = p.2;
      high = pos (n % 256);
      cuts = word_rest n 1 l (omega arith) (omega arith);
      raised = pos ((n % 256) * 256);
      raises = ap Some (unwrapped ((n % 256) * 256) (omega arith));
      adds = ap Some (unwrapped (part_of m 3 1 + (n % 256) * 256) (omega arith)) ∙ ap (λ k. Some (pos k)) e;
    }

pub glued_low : (m n : ℕ) → glued m n 3 2 < 65536
glued_low m n = omega arith

pub unsigned_over : (m n : ℕ) → cast_signed w32 (glued m n 3 2) ≡ pos (glued m n 3 2)
unsigned_over m n = score_low (glued m n 3 2) (omega arith)

-- and with their sign: where the number is high, less 65536
signed_back : (h : ℕ) → cast_signed w32 (extend_s w16 w32 h) ≡ cast_signed w16 h
signed_back h = to_z-of_z w32 (cast_signed w16 h) (fits_half h)

pub low_stays : (h : ℕ) → h < 32768 → (some_is_in (from (pos 32768)) (Some (pos h)) ≡ false) × (cast_signed w32 (extend_s w16 w32 h) ≡ pos h)
low_stays h l = (lt-leb 32768 h l, signed_back h ∙ low_half h l)

pub high_turns : (h : ℕ) → 32768 ≤ h → h < 65536
    → (some_is_in (from (pos 32768)) (Some (pos h)) ≡ true) × (operate subtract (pos h) (pos (256 ^ 2)) ≡ Some (cast_signed w32 (extend_s w16 w32 h)))
high_turns h l k =
    let e : pos h -ℤ pos 65536 ≡ negsuc (65536 - suc h) = omega (arith, ints) in
    (le-leb 32768 h l, ap (λ z. Some (wrapped z)) e ∙ ap Some (unwrapped_below (65536 - suc h) (omega arith)) ∙ ap Some (sym (signed_back h ∙ high_half h l)))
