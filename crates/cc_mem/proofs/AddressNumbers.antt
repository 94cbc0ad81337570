-- Numbers on the way of an address: where it lies from the window's beginning on, and back.
use Rattle.std.proofs.Common.{◌≡◌, ℕ, suc, ◌+◌, ◌-◌, ◌*◌, ◌/◌, ◌%◌, ◌<◌, ◌≤◌, Some, Bool, true, false, refl, sym, ap, ◌∙◌, ⊎_elim, subst, arith}
use Rattle.std.specs.Prelude.{ℤ, pos, negsuc, ◌+ℤ◌, ◌-ℤ◌, ◌*ℤ◌, ◌&&◌, nat_le, nat_eq, if◌then◌else◌}
use Rattle.std.specs.Int.{w32, cast_unsigned}
use Rattle.std.proofs.Math.Nat.{div-le_self}
use Rattle.std.proofs.lemmas.Nat.{div-add-mod'}
use Rattle.std.proofs.lemmas.Int.{ints, int_wrap_fits, int_wrap-add_left, int_wrap-mul_left, SFits-int_wrap}
use Rattle.std.proofs.lemmas.Bool.{lt-ltb, ltb-true, le-leb, leb-true, leb-false, eqb-true, ne_eqb, cases_lt}
use lib.Signed.{mag}
use Rattle.mc_nbt.specs.Word.{is_int}
use Rattle.mc_nbt.proofs.TestLemmas.{and_first, and_second, and_both, some_same}
use Rattle.mc_cmd.specs.Command.{between, divide, remainder}
use Rattle.mc_cmd.specs.World.{wrapped, floor_by, operate, is_in}
use Rattle.mc_cmd.specs.Layout.{page_words}
use Rattle.cc_line.proofs.Words.{low_score, by_word}
use Rattle.cc_page.specs.Pages.{signed_word, byte_address}
use Rattle.cc_page.specs.Law.{base_of}
use Rattle.cc_page.proofs.Scores.{addresses_split}
use Rattle.cc_mem.specs.Address.{most_near, no_offset, is_told, least_place}

-- ---- what steps do with a number

-- an offset more, and less
abbrev pub added : ℤ → ℕ → ℤ
added z offset = if nat_eq offset 0 then z else wrapped (z +ℤ pos offset)

abbrev pub taken : ℤ → ℕ → ℤ
taken z offset = if nat_eq offset 0 then z else wrapped (z -ℤ pos offset)

-- from 0 to 2^24 - 1
abbrev pub is_low : ℤ → Bool
is_low z = is_in (between (pos 0) (pos 16777215)) z

abbrev pub low_or : ℤ → ℤ → ℤ
low_or y z = if is_low z then z else y

-- what an operand counts as where the offset isn't near
abbrev pub counted : ℕ → ℤ → ℤ
counted offset z = if nat_le offset most_near then z else low_or (negsuc 33554431) z

-- from a beginning on
abbrev pub from_base : ℤ → ℕ → ℤ → ℤ
from_base base offset z = added (wrapped (counted offset z -ℤ base)) offset

-- quotient and rest by four
abbrev pub word_of : ℤ → ℤ
word_of x = wrapped (floor_by x 4)

abbrev pub byte_of : ℤ → ℤ
byte_of x = x -ℤ (pos 4 *ℤ floor_by x 4)

-- and back
abbrev pub put_back : ℤ → ℤ → ℤ → ℤ
put_back base q r = wrapped (wrapped (wrapped (q *ℤ pos 4) +ℤ r) +ℤ base)

-- what of an offset the helper takes notice that moves the window
abbrev pub told_part : ℕ → ℕ
told_part offset = if is_told offset then offset else 0

-- the number that it finds, and the address to which it goes
abbrev pub sum_of : ℕ → ℤ → ℤ
sum_of offset z = added (counted offset z) offset

abbrev pub sought : ℕ → ℤ → ℤ
sought offset z = added (low_or (pos 16777216) (taken (sum_of offset z) (told_part offset))) (told_part offset)

-- ---- numbers that don't wrap

pub wrapped_int : (z : ℤ) → is_int (wrapped z) ≡ true
wrapped_int z = lt-ltb (mag (wrapped z)) 2147483648 (SFits-int_wrap w32 z).sfits

pub int_stays : (z : ℤ) → is_int z ≡ true → wrapped z ≡ z
int_stays z i = int_wrap_fits w32 z (record { sfits = ltb-true (mag z) 2147483648 i })

pub small : (n : ℕ) → n < 2147483648 → wrapped (pos n) ≡ pos n
small n h = int_wrap_fits w32 (pos n) (record { sfits = h })

small_below : (n : ℕ) → n < 2147483648 → wrapped (negsuc n) ≡ negsuc n
small_below n h = int_wrap_fits w32 (negsuc n) (record { sfits = h })

pub difference_stays : (a b : ℕ) → a < 2147483648 → b < 2147483648 → wrapped (pos a -ℤ pos b) ≡ pos a -ℤ pos b
difference_stays a b h k =
    ⊎_elim
    (λ l. let e : pos a -ℤ pos b ≡ negsuc (b - suc a) = omega (arith, ints) in ap wrapped e ∙ small_below (b - suc a) (omega arith) ∙ sym e)
    (λ g. let e : pos a -ℤ pos b ≡ pos (a - b) = omega (arith, ints) in ap wrapped e ∙ small (a - b) (omega arith) ∙ sym e)
    (cases_lt a b)

pub counted_int : (offset : ℕ) (z : ℤ) → is_int z ≡ true → is_int (counted offset z) ≡ true
counted_int offset z i = by (nat_le offset most_near) (is_low z)
  where
    by : (b c : Bool) → is_int (if b then z else (if c then z else negsuc 33554431)) ≡ true
    by true c = i
    by false true = i
    by false false = refl

added_int : (z : ℤ) (offset : ℕ) → is_int z ≡ true → is_int (added z offset) ≡ true
added_int z offset i = by (nat_eq offset 0)
  where
    by : (b : Bool) → is_int (if b then z else wrapped (z +ℤ pos offset)) ≡ true
    by true = i
    by false = wrapped_int (z +ℤ pos offset)

pub from_base_int : (base : ℤ) (offset : ℕ) (z : ℤ) → is_int (from_base base offset z) ≡ true
from_base_int base offset z = added_int (wrapped (counted offset z -ℤ base)) offset (wrapped_int (counted offset z -ℤ base))

-- ---- the number again

-- from quotient and rest
whole : (x : ℤ) → is_int x ≡ true → wrapped (wrapped (word_of x *ℤ pos 4) +ℤ byte_of x) ≡ x
whole x i =
    let f : ℤ = floor_by x 4 in
    let e : f *ℤ pos 4 +ℤ (x -ℤ (pos 4 *ℤ f)) ≡ x = omega (arith, ints) in
    ap (λ z. wrapped (z +ℤ byte_of x)) (int_wrap-mul_left w32 f (pos 4)) ∙ int_wrap-add_left w32 (f *ℤ pos 4) (byte_of x) ∙ ap wrapped e ∙ int_stays x i

-- to wrap before a difference changes nothing
wrap_less : (a b : ℤ) → wrapped (wrapped a -ℤ b) ≡ wrapped (a -ℤ b)
wrap_less a b =
    let e : (y : ℤ) → y -ℤ b ≡ y +ℤ (pos 0 -ℤ b) = λ y. omega (arith, ints) in
    ap wrapped (e (wrapped a)) ∙ int_wrap-add_left w32 a (pos 0 -ℤ b) ∙ ap wrapped (sym (e a))

-- from the beginning on, and back
sum_again : (base : ℤ) (offset : ℕ) (z : ℤ) → is_int z ≡ true → wrapped (added (wrapped (z -ℤ base)) offset +ℤ base) ≡ added z offset
sum_again base offset z i = by (nat_eq offset 0)
  where
    by : (b : Bool) → wrapped ((if b then wrapped (z -ℤ base) else wrapped (wrapped (z -ℤ base) +ℤ pos offset)) +ℤ base) ≡ (if b then z else wrapped (z +ℤ pos offset))
    by true =
        let e : (z -ℤ base) +ℤ base ≡ z = omega (arith, ints) in
        int_wrap-add_left w32 (z -ℤ base) base ∙ ap wrapped e ∙ int_stays z i
    by false =
        let o : ℤ = pos offset in
        let e : ((z -ℤ base) +ℤ o) +ℤ base ≡ z +ℤ o = omega (arith, ints) in
        ap (λ y. wrapped (y +ℤ base)) (int_wrap-add_left w32 (z -ℤ base) o) ∙ int_wrap-add_left w32 ((z -ℤ base) +ℤ o) base ∙ ap wrapped e

-- an offset more, and less
home_again : (offset : ℕ) (z : ℤ) → is_int z ≡ true → taken (added z offset) offset ≡ z
home_again offset z i = by (nat_eq offset 0)
  where
    by : (b : Bool) → (let y : ℤ = (if b then z else wrapped (z +ℤ pos offset)) in if b then y else wrapped (y -ℤ pos offset)) ≡ z
    by true = refl
    by false =
        let o : ℤ = pos offset in
        let f : (z +ℤ o) -ℤ o ≡ z = omega (arith, ints) in
        wrap_less (z +ℤ o) o ∙ ap wrapped f ∙ int_stays z i

-- without its quotient and its rest
pub again_is : (base : ℤ) (offset : ℕ) (z : ℤ) → is_int z ≡ true → taken (wrapped (from_base base offset z +ℤ base)) offset ≡ counted offset z
again_is base offset z i =
    let c : is_int (counted offset z) ≡ true = counted_int offset z i in
    ap (λ y. taken y offset) (sum_again base offset (counted offset z) c) ∙ home_again offset (counted offset z) c

pub back_is : (base : ℤ) (offset : ℕ) (z : ℤ) → is_int z ≡ true → put_back base (word_of (from_base base offset z)) (byte_of (from_base base offset z)) ≡ sum_of offset z
back_is base offset z i =
    ap (λ y. wrapped (y +ℤ base)) (whole (from_base base offset z) (from_base_int base offset z)) ∙ sum_again base offset (counted offset z) (counted_int offset z i)

-- ---- where the window has it

-- A word in the window, and not one of the first ones, as many as an offset leads over: nothing has wrapped. A number from the
-- beginning on is above 0, and its quotient and its rest are those of a natural number.
pub record IsWithin (least : ℕ) (x : ℤ) : Type 0 where
  pub number : ℕ
  pub is : x ≡ pos number
  pub low : number < 65536
  pub from : least ≤ number / 4
  pub word : word_of x ≡ pos (number / 4)
  pub byte : byte_of x ≡ pos (number % 4)

pub within_is : (least : ℕ) (x : ℤ) → is_int x ≡ true → is_in (between (pos least) (pos 16383)) (word_of x) ≡ true → IsWithin least x
within_is least (pos n) i h =
    let l : n < 2147483648 = ltb-true n 2147483648 i in
    let d = div-le_self n 4 in
    let e : wrapped (pos (n / 4)) ≡ pos (n / 4) = small (n / 4) (omega arith) in
    let g : is_in (between (pos least) (pos 16383)) (pos (n / 4)) ≡ true = ap (λ q. is_in (between (pos least) (pos 16383)) q) (sym e) ∙ h in
    let f : least ≤ n / 4 = leb-true least (n / 4) (and_first _ _ g) in
    let k : n / 4 ≤ 16383 = leb-true (n / 4) 16383 (and_second (nat_le least (n / 4)) _ g) in
    record { number = n; is = refl; low = omega arith; from = f; word = e; byte = let m = div-add-mod' n 4 in omega (arith, ints) }
within_is least (negsuc n) i h =
    let l : n < 2147483648 = ltb-true n 2147483648 i in
    let d = div-le_self n 4 in
    let e : wrapped (negsuc (n / 4)) ≡ negsuc (n / 4) = small_below (n / 4) (omega arith) in
    let g : false ≡ true = ap (λ q. is_in (between (pos least) (pos 16383)) q) (sym e) ∙ h in
    absurd cc

-- the number again, where it is in the window
pub counted_within : (n page offset : ℕ) (z : ℤ) → n < 65536 → page < 256 → offset < no_offset → taken (wrapped (pos n +ℤ pos (65536 * page))) offset ≡ z → pos (n + 65536 * page) -ℤ pos offset ≡ z
counted_within n page offset z l p o e = by (nat_eq offset 0) refl e
  where
    a : wrapped (pos n +ℤ pos (65536 * page)) ≡ pos (n + 65536 * page)
    a = small (n + 65536 * page) (omega arith)

    by : (b : Bool) → nat_eq offset 0 ≡ b → (if b then wrapped (pos n +ℤ pos (65536 * page)) else wrapped (wrapped (pos n +ℤ pos (65536 * page)) -ℤ pos offset)) ≡ z → pos (n + 65536 * page) -ℤ pos offset ≡ z
    by true q f = let o : offset ≡ 0 = eqb-true offset 0 q in let g : pos (n + 65536 * page) -ℤ pos offset ≡ pos (n + 65536 * page) = omega (arith, ints) in g ∙ sym a ∙ f
    by false q f =
        sym (difference_stays (n + 65536 * page) offset (omega arith) (omega arith)) ∙ ap (λ x. wrapped (x -ℤ pos offset)) (sym a) ∙ f

-- so the operand, without its sign, and the offset are the address of that place
pub near_address : (n page offset : ℕ) (z : ℤ) → n < 65536 → page < 256 → offset < no_offset → least_place offset ≤ n / 4
    → pos (n + 65536 * page) -ℤ pos offset ≡ counted offset z → cast_unsigned w32 z + offset ≡ n + 65536 * page
near_address n page offset z l p o h e = by (nat_le offset most_near) refl h e
  where
    natural : (m : ℕ) → z ≡ pos m → m + offset ≡ n + 65536 * page → cast_unsigned w32 z + offset ≡ n + 65536 * page
    natural m f g = ap (λ y. cast_unsigned w32 y + offset) f ∙ g

    far : (c : Bool) → is_low z ≡ c → pos (n + 65536 * page) -ℤ pos offset ≡ (if c then z else negsuc 33554431) → cast_unsigned w32 z + offset ≡ n + 65536 * page
    far true q f = low z q f
      where
        low : (z : ℤ) → is_low z ≡ true → pos (n + 65536 * page) -ℤ pos offset ≡ z → cast_unsigned w32 z + offset ≡ n + 65536 * page
        low (pos m) q f = omega (arith, ints)
        low (negsuc m) q f = absurd cc
    far false q f = absurd (omega (arith, ints))

    by : (b : Bool) → nat_le offset most_near ≡ b → (if b then (offset + 3) / 4 else 0) ≤ n / 4
        → pos (n + 65536 * page) -ℤ pos offset ≡ (if b then z else (if is_low z then z else negsuc 33554431)) → cast_unsigned w32 z + offset ≡ n + 65536 * page
    by true q h f = natural (n + 65536 * page - offset) (sym f ∙ omega (arith, ints)) (omega arith)
    by false q h f = far (is_low z) refl f

-- ---- where it doesn't

-- where a helper takes notice of an offset it is near, and not 0; else it is far, or 0
pub told_is : (offset : ℕ) → is_told offset ≡ true → (1 ≤ offset) × (offset ≤ most_near)
told_is offset e = (leb-true 1 offset (and_first _ _ e), leb-true offset most_near (and_second (nat_le 1 offset) _ e))

pub told_some : (offset : ℕ) → is_told offset ≡ true → nat_eq offset 0 ≡ false
told_some offset e = ne_eqb offset 0 (λ q. let k : 1 ≤ offset = (told_is offset e).0 in omega arith)

pub untold_is : (offset : ℕ) → is_told offset ≡ false → offset ≤ most_near → offset ≡ 0
untold_is offset e l = ⊎_elim (λ z. omega arith) (λ g. absurd (let y : true ≡ false = sym (and_both _ _ (le-leb 1 offset g) (le-leb offset most_near l)) ∙ e in cc)) (cases_lt offset 1)

-- a near offset: the operand, or what lies behind 256 pages, and the offset
near_sought : (offset : ℕ) (z : ℤ) → is_int z ≡ true → nat_le offset most_near ≡ true → sought offset z ≡ added (base_of z) offset
near_sought offset z i e = by (is_told offset) refl
  where
    plain : taken (sum_of offset z) offset ≡ z
    plain = ap (λ b. taken (added (if b then z else low_or (negsuc 33554431) z) offset) offset) e ∙ home_again offset z i

    by : (b : Bool) → is_told offset ≡ b → (let n : ℕ = (if b then offset else 0) in added (low_or (pos 16777216) (taken (sum_of offset z) n)) n) ≡ added (base_of z) offset
    by true f = ap (λ y. added (low_or (pos 16777216) y) offset) plain
    by false f =
        let o : offset ≡ 0 = untold_is offset f (leb-true offset most_near e) in
        ap (λ n. added (low_or (pos 16777216) (taken (sum_of offset z) n)) n) (sym o) ∙ ap (λ y. added (low_or (pos 16777216) y) offset) plain

low_is : (m : ℕ) → m < 16777216 → is_low (pos m) ≡ true
low_is m l = and_both _ _ (le-leb 0 m (omega arith)) (le-leb m 16777215 (omega arith))

-- from 0 on without sign, or with it
not_low : (z : ℤ) → is_low z ≡ false → is_int z ≡ true → 16777216 ≤ cast_unsigned w32 z
not_low z e i = by_word (λ u y. is_low y ≡ false → 16777216 ≤ u) made z i e
  where
    made : (u : ℕ) → u < 4294967296 → is_low (signed_word u) ≡ false → 16777216 ≤ u
    made u l f = ⊎_elim (λ k. absurd (let y : true ≡ false = sym (ap is_low (low_score u (omega arith)) ∙ low_is u k) ∙ f in cc)) (λ k. k) (cases_lt u 16777216)

-- a number up to 2^24: the address, or 2^24 where that isn't below it
record IsClamped (v : ℤ) (n : ℕ) : Type 0 where
  number : ℕ
  is : v ≡ pos number
  low : number ≤ 16777216
  same : number < 16777216 → number ≡ n
  high : 16777216 ≤ number → 16777216 ≤ n

clamp : (n : ℕ) → n < 2147483648 → IsClamped (low_or (pos 16777216) (pos n)) n
clamp n l = by (is_low (pos n)) refl
  where
    by : (c : Bool) → is_low (pos n) ≡ c → IsClamped (if c then pos n else pos 16777216) n
    by true e = let h : n ≤ 16777215 = leb-true n 16777215 (and_second (nat_le 0 n) _ e) in record { number = n; is = refl; low = omega arith; same = λ k. refl; high = λ k. k }
    by false e = record { number = 16777216; is = refl; low = omega arith; same = λ k. absurd (omega arith); high = λ k. above }
      where
        above : 16777216 ≤ n
        above = ⊎_elim (λ k. absurd (let y : true ≡ false = sym (low_is n k) ∙ e in cc)) (λ k. k) (cases_lt n 16777216)

-- a far one: the sum, or what lies behind 256 pages
far_clamped : (offset : ℕ) (z : ℤ) → is_int z ≡ true → offset < no_offset → most_near < offset → IsClamped (low_or (pos 16777216) (wrapped (low_or (negsuc 33554431) z +ℤ pos offset))) (cast_unsigned w32 z + offset)
far_clamped offset z i o f = by z (is_low z) refl i
  where
    below : wrapped (negsuc 33554431 +ℤ pos offset) ≡ negsuc (33554431 - offset)
    below = let e : negsuc 33554431 +ℤ pos offset ≡ negsuc (33554431 - offset) = omega (arith, ints) in ap wrapped e ∙ small_below (33554431 - offset) (omega arith)

    behind : (n : ℕ) → 16777216 ≤ n → IsClamped (low_or (pos 16777216) (wrapped (negsuc 33554431 +ℤ pos offset))) n
    behind n h = record { number = 16777216; is = ap (low_or (pos 16777216)) below; low = omega arith; same = λ k. absurd (omega arith); high = λ k. h }

    by : (z : ℤ) (c : Bool) → is_low z ≡ c → is_int z ≡ true → IsClamped (low_or (pos 16777216) (wrapped ((if c then z else negsuc 33554431) +ℤ pos offset))) (cast_unsigned w32 z + offset)
    by (pos m) true e k =
        let l : m ≤ 16777215 = leb-true m 16777215 (and_second (nat_le 0 m) _ e) in
        let q : wrapped (pos m +ℤ pos offset) ≡ pos (m + offset) = small (m + offset) (omega arith) in
        subst (λ y. IsClamped (low_or (pos 16777216) y) (m + offset)) (sym q) (clamp (m + offset) (omega arith))
    by (negsuc m) true e k = absurd cc
    by z false e k = behind (cast_unsigned w32 z + offset) (let h : 16777216 ≤ cast_unsigned w32 z = not_low z e k in omega arith)

base_small : (z : ℤ) → (b : ℕ) × (base_of z ≡ pos b) × (b ≤ 16777216)
base_small z = by z (is_low z) refl
  where
    by : (z : ℤ) (c : Bool) → is_low z ≡ c → (b : ℕ) × ((if c then z else pos 16777216) ≡ pos b) × (b ≤ 16777216)
    by z false e = (16777216, refl, omega arith)
    by (pos n) true e = let l = leb-true n 16777215 (and_second (nat_le 0 n) _ e) in (n, refl, omega arith)
    by (negsuc n) true e = absurd cc

added_base : (z : ℤ) (offset : ℕ) → added (base_of z) offset ≡ wrapped (base_of z +ℤ pos offset)
added_base z offset = by (nat_eq offset 0) refl
  where
    by : (c : Bool) → nat_eq offset 0 ≡ c → (if c then base_of z else wrapped (base_of z +ℤ pos offset)) ≡ wrapped (base_of z +ℤ pos offset)
    by false e = refl
    by true e =
        let o : offset ≡ 0 = eqb-true offset 0 e in
        let b = base_small z in
        let f : b.0 + 0 ≡ b.0 = omega arith in
        b.1 ∙ sym (small b.0 (omega arith)) ∙ ap (λ n. wrapped (pos n)) (sym f) ∙ ap (λ y. wrapped (y +ℤ pos 0)) (sym b.1) ∙ ap (λ n. wrapped (base_of z +ℤ pos n)) (sym o)

-- page, place and byte of an address, by scores: of the address n, or of what lies behind 256 pages, where n does
pub record IsSplit (v : ℤ) (n : ℕ) : Type 0 where
  pub page : ℕ
  pub place : ℕ
  pub byte : ℕ
  pub within : (page < 512) × (place < page_words) × (byte < 4)
  pub sum : v ≡ pos (byte_address page place byte)
  pub word : word_of (pos (byte_address page place byte)) ≡ pos (page_words * page + place)
  pub rest : byte_of (pos (byte_address page place byte)) ≡ pos byte
  pub quotient : operate divide (pos (page_words * page + place)) (pos page_words) ≡ Some (pos page)
  pub remains : operate remainder (pos (page_words * page + place)) (pos page_words) ≡ Some (pos place)
  pub is : page < 256 → byte_address page place byte ≡ n
  pub beyond : 256 ≤ page → 16777216 ≤ n

near_split : (z : ℤ) (offset : ℕ) → is_int z ≡ true → offset < no_offset → IsSplit (added (base_of z) offset) (cast_unsigned w32 z + offset)
near_split z offset i o = by_word (λ u y. (w : ℤ) → w ≡ y → cast_unsigned w32 w ≡ u → IsSplit (added (base_of w) offset) (cast_unsigned w32 w + offset)) made z i z refl refl
  where
    made : (u : ℕ) → u < 4294967296 → (w : ℤ) → w ≡ signed_word u → cast_unsigned w32 w ≡ u → IsSplit (added (base_of w) offset) (cast_unsigned w32 w + offset)
    made u l w e f =
        let a = addresses_split u offset l o in
        let b : (y : ℤ) → w ≡ y → base_of w ≡ base_of y = λ y g. ap base_of g in
        record {
          page = a.0;
          place = a.1;
          byte = a.2;
          within = (a.8, a.9, a.10);
          sum = added_base w offset ∙ ap (λ y. wrapped (y +ℤ pos offset)) (b (signed_word u) e) ∙ some_same _ _ a.3;
          word = some_same _ _ a.4;
          rest = some_same _ _ a.5;
          quotient = a.6;
          remains = a.7;
          is = λ h. ⊎_elim (λ g. a.11 g ∙ ap (λ n. n + offset) (sym f)) (λ g. let p = a.12 g in absurd (omega arith)) (cases_lt u 16777216);
          beyond = λ h. ⊎_elim (λ g. let p = a.11 g in omega arith) (λ g. omega arith) (cases_lt u 16777216);
        }

-- a number up to 2^24 is its own address
clamped_split : (v : ℤ) (n : ℕ) → IsClamped v n → IsSplit v n
clamped_split v n c =
    let m : ℕ = c.number in
    let a = near_split (pos m) 0 (lt-ltb m 2147483648 (let l : m ≤ 16777216 = c.low in omega arith)) (omega arith) in
    record {
      page = a.page;
      place = a.place;
      byte = a.byte;
      within = a.within;
      sum = c.is ∙ sym (own m c.low) ∙ a.sum;
      word = a.word;
      rest = a.rest;
      quotient = a.quotient;
      remains = a.remains;
      is = λ h. let e : byte_address a.page a.place a.byte ≡ m + 0 = a.is h in let k = a.within in let s : m ≡ n = c.same (omega arith) in omega arith;
      beyond = λ h. let e : 16777216 ≤ m + 0 = a.beyond h in c.high (omega arith);
    }
  where
    own : (m : ℕ) → m ≤ 16777216 → base_of (pos m) ≡ pos m
    own m l = by (is_low (pos m)) refl
      where
        by : (b : Bool) → is_low (pos m) ≡ b → (if b then pos m else pos 16777216) ≡ pos m
        by true e = refl
        by false e = ⊎_elim (λ k. absurd (let y : true ≡ false = sym (low_is m k) ∙ e in cc)) (λ k. let q : 16777216 ≡ m = omega arith in ap pos q) (cases_lt m 16777216)

none : (b : Bool) → b && false ≡ false
none true = refl
none false = refl

-- page, place and byte of the address of an operand
pub split_is : (offset : ℕ) (z : ℤ) → is_int z ≡ true → offset < no_offset → IsSplit (sought offset z) (cast_unsigned w32 z + offset)
split_is offset z i o = by (nat_le offset most_near) refl
  where
    by : (b : Bool) → nat_le offset most_near ≡ b → IsSplit (sought offset z) (cast_unsigned w32 z + offset)
    by true e = subst (λ v. IsSplit v (cast_unsigned w32 z + offset)) (sym (near_sought offset z i e)) (near_split z offset i o)
    by false e =
        let f : most_near < offset = leb-false offset most_near e in
        let t : is_told offset ≡ false = ap (λ b. nat_le 1 offset && b) e ∙ none (nat_le 1 offset) in
        let n : nat_eq offset 0 ≡ false = ne_eqb offset 0 (λ z. omega arith) in
        let s : sought offset z ≡ low_or (pos 16777216) (wrapped (low_or (negsuc 33554431) z +ℤ pos offset)) =
        ap (λ b. let n : ℕ = (if b then offset else 0) in added (low_or (pos 16777216) (taken (sum_of offset z) n)) n) t
        ∙ ap (λ b. low_or (pos 16777216) (added (if b then z else low_or (negsuc 33554431) z) offset)) e
        ∙ ap (λ b. low_or (pos 16777216) (if b then low_or (negsuc 33554431) z else wrapped (low_or (negsuc 33554431) z +ℤ pos offset))) n in
        subst (λ v. IsSplit v (cast_unsigned w32 z + offset)) (sym s) (clamped_split _ _ (far_clamped offset z i o f))
