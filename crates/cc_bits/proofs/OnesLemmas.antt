-- The ones of a word are those of its bytes, and the lines count them.
use Rattle.std.proofs.Common.{◌≡◌, ℕ, ◌+◌, ◌*◌, ◌/◌, ◌%◌, ◌<◌, List, [], ◌∷◌, Some, true, refl, sym, ap, ◌∙◌, subst, arith, mod-lt}
use Rattle.std.specs.Prelude.{ℤ, pos, ◌+ℤ◌, ◌-ℤ◌, ◌*ℤ◌, codes, count_ones}
use Rattle.std.specs.Int.{w32}
use Rattle.std.proofs.lemmas.Bool.{lt-ltb}
use Rattle.std.proofs.lemmas.Nat.{ones_cat, ones_le_self}
use Rattle.std.proofs.lemmas.Option.{same_Some}
use Rattle.mc_nbt.specs.Tree.{place, select}
use Rattle.mc_nbt.specs.Word.{is_int}
use Rattle.mc_cmd.specs.World.{wrapped, rest_by, floor_by}
use Rattle.wm_ast.specs.Integer.{ipopcnt}
use Rattle.cc_line.specs.declared.table.Table.TheVariants.{Ones}
use Rattle.cc_line.specs.State.{State, number_at, selected, with_tree}
use Rattle.cc_line.specs.Table.{table_tree}
use Rattle.cc_line.specs.Step.{Step}
use Rattle.cc_line.specs.Core.{Straight}
use Rattle.cc_line.specs.OpenStep.{HasSomeInts, steps_names}
use Rattle.cc_line.specs.Item.{fill_item, first, no_more, steps_items, filled_steps}
use Rattle.cc_line.proofs.RunLemmas.{leads_none, leads_join, straight_leads}
use Rattle.cc_line.proofs.SettleLemmas.{with_one}
use Rattle.cc_line.proofs.TableLemmas.{table_fits, IsPlace, index_in, ones_table}
use Rattle.cc_line.proofs.Words.{score, by_sign, low_score, unwrapped, unwrapped_pos, fits_score}
use Rattle.cc_line.proofs.Rests.{low_byte}
use Rattle.cc_bits.specs.Line.{choice_site, table_site, lays, still}
use Rattle.cc_bits.specs.Digit.{bytes_steps, ones_steps, popcnt_items}
use Rattle.cc_bits.proofs.LookLemmas.{Near, near_then, final, final_near, final_straight, leads_fill, ComesOne}
use Rattle.cc_bits.proofs.ShiftFacts.{floor_twice, fits_floor}
use Rattle.cc_bits.proofs.Trailing.{rest_floor}

-- ---- the bytes as the lines make them

abbrev down : ℤ → ℤ
down z = wrapped (floor_by z 256)

abbrev rest : ℤ → ℤ
rest z = z -ℤ (pos 256 *ℤ floor_by z 256)

abbrev B0 : ℤ → ℤ
B0 z = rest z

abbrev B1 : ℤ → ℤ
B1 z = rest (down z)

abbrev B2 : ℤ → ℤ
B2 z = rest (down (down z))

abbrev B3 : ℤ → ℤ
B3 z = down (down (down z))

-- each is an int, and a place of a list of 256
record Placed (n : ℕ) (z : ℤ) : Type 0 where
  ranged : is_int z ≡ true
  within : IsPlace 256 z
  index : index_in 256 z ≡ n

placed_low : (n : ℕ) (z : ℤ) → z ≡ pos n → n < 256 → Placed n z
placed_low n z e l = subst (Placed n) (sym e) (record { ranged = lt-ltb n 2147483648 (omega arith); within = l; index = refl })

placed_top : (m : ℕ) → m < 4294967296 → Placed (m / 16777216) (floor_by (score m) 16777216)
placed_top = by_sign (λ m z. Placed (m / 16777216) (floor_by z 16777216))
    (λ m h. record { ranged = lt-ltb (m / 16777216) 2147483648 (omega arith); within = omega arith; index = refl })
    (λ k h. record { ranged = lt-ltb (k / 16777216) 2147483648 (omega arith); within = omega arith; index = omega arith })

record AllPlaced (m : ℕ) (z : ℤ) : Type 0 where
  at_0 : Placed (m % 256) (B0 z)
  at_1 : Placed (m / 256 % 256) (B1 z)
  at_2 : Placed (m / 65536 % 256) (B2 z)
  at_3 : Placed (m / 16777216) (B3 z)

down_by : (m d e : ℕ) → m < 4294967296 → d * 256 ≡ e → down (floor_by (score m) d) ≡ floor_by (score m) e
down_by m d e h q = ap wrapped (floor_twice (score m) d 256 ∙ ap (floor_by (score m)) q) ∙ unwrapped (floor_by (score m) e) (fits_floor (score m) e (fits_score m h))

all_placed : (m : ℕ) → m < 4294967296 → AllPlaced m (score m)
all_placed m h =
    let d1 : down (score m) ≡ floor_by (score m) 256 = unwrapped (floor_by (score m) 256) (fits_floor (score m) 256 (fits_score m h)) in
    let d2 : down (down (score m)) ≡ floor_by (score m) 65536 = ap down d1 ∙ down_by m 256 65536 h refl in
    let d3 : down (down (down (score m))) ≡ floor_by (score m) 16777216 = ap down d2 ∙ down_by m 65536 16777216 h refl in
    record {
      at_0 = placed_low (m % 256) (B0 (score m)) (same_Some _ _ (low_byte m h)) (mod-lt m (omega arith));
      at_1 = placed_low (m / 256 % 256) (B1 (score m)) (same_Some _ _ (ap (λ z. rest_by z (pos 256)) d1 ∙ rest_floor 256 255 65536 m refl (omega arith) h)) (mod-lt (m / 256) (omega arith));
      at_2 = placed_low (m / 65536 % 256) (B2 (score m)) (same_Some _ _ (ap (λ z. rest_by z (pos 256)) d2 ∙ rest_floor 65536 255 256 m refl (omega arith) h)) (mod-lt (m / 65536) (omega arith));
      at_3 = subst (Placed (m / 16777216)) (sym d3) (placed_top m h);
    }

-- ---- the ones of a word, by its bytes

ones_next : (m : ℕ) → count_ones m ≡ count_ones (m / 256) + count_ones (m % 256)
ones_next m =
    let whole : m ≡ m / 256 * 256 + m % 256 = omega arith in
    ap count_ones whole ∙ ones_cat 8 (m / 256) (m % 256) (mod-lt m (omega arith))

pub ones_of_bytes : (m : ℕ) → count_ones m ≡ count_ones (m / 16777216) + count_ones (m / 65536 % 256) + count_ones (m / 256 % 256) + count_ones (m % 256)
ones_of_bytes m =
    let e : m / 256 / 256 ≡ m / 65536 = omega arith in
    let d : m / 65536 / 256 ≡ m / 16777216 = omega arith in
    let a = ones_next m in
    let b = ones_next (m / 256) ∙ ap (λ n. count_ones n + count_ones (m / 256 % 256)) e in
    let c = ones_next (m / 65536) ∙ ap (λ n. count_ones n + count_ones (m / 65536 % 256)) d in
    omega (arith, a, b, c)

-- ---- the lines

abbrev found : ℤ → ℤ
found z = number_at (select (table_tree Ones) (place z ∷ []))

abbrev with_ones : ℤ → ℤ → ℤ
with_ones d c = wrapped (d +ℤ c)

module _ (s : State) (x : ℤ) where
  abbrev one : State
  one = with_one s x

  abbrev front : State
  front = final bytes_steps one

  abbrev rest_steps : List Step
  rest_steps = filled_steps choice_site ones_steps front

  abbrev counted : State
  counted = final rest_steps (with_tree front table_site (Some (table_tree Ones)))

  abbrev all_steps : List Step
  all_steps = filled_steps choice_site (still (lays Ones) ∷ ones_steps) front

  laid : final all_steps front ≡ counted
  laid = ap (λ o. final rest_steps (with_tree front table_site o)) (table_fits Ones).1

  told : Straight bytes_steps one front
  told = final_straight bytes_steps one refl refl

  told_near : Near one front
  told_near = final_near bytes_steps one refl

  filled : Straight all_steps front counted
  filled = subst (Straight all_steps front) laid (final_straight all_steps front refl refl)

  filled_near : Near front counted
  filled_near = subst (Near front) laid (final_near all_steps front refl)

  result_is : counted.scores (codes "#d") ≡ Some (with_ones (with_ones (with_ones (found (B3 x)) (found (B2 x))) (found (B1 x))) (found (B0 x)))
  result_is = refl

  has_ints : (m : ℕ) → AllPlaced m x → HasSomeInts (selected front choice_site) (steps_names (still (lays Ones) ∷ ones_steps))
  has_ints m p = (B3 x, refl, p.at_3.ranged, (B2 x, refl, p.at_2.ranged, (B1 x, refl, p.at_1.ranged, (B0 x, refl, p.at_0.ranged, tt))))

found_is : (n : ℕ) (z : ℤ) → Placed n z → found z ≡ pos (count_ones n)
found_is n z p = ap number_at (ones_table z p.within) ∙ ap (λ i. pos (count_ones i)) p.index

put_as : (d c b a d' c' b' a' : ℤ) → d ≡ d' → c ≡ c' → b ≡ b' → a ≡ a' → with_ones (with_ones (with_ones d c) b) a ≡ with_ones (with_ones (with_ones d' c') b') a'
put_as d c b a d' c' b' a' e3 e2 e1 e0 = λ i. with_ones (with_ones (with_ones (e3 i) (e2 i)) (e1 i)) (e0 i)

-- sums of small numbers are not wrapped
sum_small : (d c b a : ℕ) → d < 256 → c < 256 → b < 256 → a < 256 → with_ones (with_ones (with_ones (pos d) (pos c)) (pos b)) (pos a) ≡ pos (d + c + b + a)
sum_small d c b a hd hc hb ha =
    ap (λ z. with_ones (with_ones z (pos b)) (pos a)) (unwrapped_pos (d + c) (omega arith))
    ∙ ap (λ z. with_ones z (pos a)) (unwrapped_pos (d + c + b) (omega arith))
    ∙ unwrapped_pos (d + c + b + a) (omega arith)

pub popcnt_comes : (m : ℕ) → m < 4294967296 → ComesOne popcnt_items (codes "#d") (score m) (score (ipopcnt w32 m))
popcnt_comes m h = record {
  on = λ s.
      let p : AllPlaced m (score m) = all_placed m h in
      let u : State = front s (score m) in
      let v : State = counted s (score m) in
      let d : ℕ = count_ones (m / 16777216) in
      let c : ℕ = count_ones (m / 65536 % 256) in
      let b : ℕ = count_ones (m / 256 % 256) in
      let a : ℕ = count_ones (m % 256) in
      let l3 = ones_le_self (m / 16777216) in
      let l2 = ones_le_self (m / 65536 % 256) in
      let l1 = ones_le_self (m / 256 % 256) in
      let l0 = ones_le_self (m % 256) in
      let whole : count_ones (m / 16777216) + count_ones (m / 65536 % 256) + count_ones (m / 256 % 256) + count_ones (m % 256) ≡ count_ones m = sym (ones_of_bytes m) in (
        v,
        leads_join (steps_items bytes_steps) (first (fill_item (codes "h_cc_bits_popcnt") choice_site (still (lays Ones) ∷ ones_steps)) no_more) (one s (score m)) u v
            (straight_leads bytes_steps (one s (score m)) u (told s (score m)))
            (leads_fill (codes "h_cc_bits_popcnt") choice_site (still (lays Ones) ∷ ones_steps) no_more u v v (has_ints s (score m) m p) (filled s (score m)) (leads_none v)),
        near_then (one s (score m)) u v (told_near s (score m)) (filled_near s (score m)),
        result_is s (score m) ∙ ap Some (
            put_as _ _ _ _ _ _ _ _ (found_is (m / 16777216) (B3 (score m)) p.at_3) (found_is (m / 65536 % 256) (B2 (score m)) p.at_2) (found_is (m / 256 % 256) (B1 (score m)) p.at_1) (found_is (m % 256) (B0 (score m)) p.at_0)
            ∙ sum_small (count_ones (m / 16777216)) (count_ones (m / 65536 % 256)) (count_ones (m / 256 % 256)) (count_ones (m % 256)) (omega arith) (omega arith) (omega arith) (omega arith)
            ∙ ap pos whole
            ∙ sym (low_score (count_ones m) (omega arith))
            ),
      );
}
