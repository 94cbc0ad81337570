-- One turn of division by the score operations of its lines.
use Rattle.std.proofs.Common.{◌≡◌, ℕ, ◌+◌, ◌-◌, ◌*◌, ◌/◌, ◌%◌, ◌<◌, ◌≤◌, ℤ, pos, negsuc, ◌+ℤ◌, ◌-ℤ◌, Bool, true, false, ◌&&◌, ◌||◌, nat_lt, nat_le, ◌==◌, int_lt, int_le, arith, refl, sym, ap, ap₂, ◌∙◌, ⊎_elim, if◌then◌else◌}
use Rattle.std.proofs.lemmas.Bool.{cases_lt, lt-leb, le-leb, lt-ltb, le-ltb}
use Rattle.mc_cmd.specs.Command.{up_to, exactly, equal}
use Rattle.mc_cmd.specs.World.{wrapped, is_in, compares}
use Rattle.cc_line.proofs.Words.{score, sum_of, difference_of, negative_is, flipped, flipped_lt, flipped_le}
use Rattle.cc_div64.proofs.Pairs.{pair, add_one_if, take_one_if, plus_one, minus_one}
use Rattle.cc_div64.specs.Turn.{Turn}
use Rattle.cc_div64.proofs.Turning.{turned}

-- what the four scores are after the lines
pub record Scores : Type 0 where
  pub dl : ℤ
  pub dh : ℤ
  pub rl : ℤ
  pub rh : ℤ

-- `if #l in ..-1: #h += 1` after `#h += #h`
abbrev pub twice : ℤ → ℤ → ℤ
twice h l = add_one_if (is_in (up_to (negsuc 0)) l) (wrapped (h +ℤ h))

abbrev pub one_at : Bool → ℤ → ℤ
one_at b g = if b then pos 1 else g

abbrev pub turn_lines : ℤ → ℤ → Scores → Scores
turn_lines bl bh t =
    let g0 : ℤ = one_at (is_in (up_to (negsuc 0)) t.rh) (pos 0) in
    let rh : ℤ = twice t.rh t.rl in
    let rl : ℤ = twice t.rl t.dh in
    let dh : ℤ = twice t.dh t.dl in
    let dl : ℤ = wrapped (t.dl +ℤ t.dl) in
    let g1 : ℤ = one_at (int_lt (flipped bh) (flipped rh)) g0 in
    let g2 : ℤ = one_at (compares equal (flipped rh) (flipped bh) && int_le (flipped bl) (flipped rl)) g1 in
    if is_in (exactly (pos 1)) g2
    then record { dl = wrapped (dl +ℤ pos 1); dh = dh; rl = wrapped (rl -ℤ bl); rh = wrapped (take_one_if (int_lt (flipped rl) (flipped bl)) rh -ℤ bh) }
    else record { dl = dl; dh = dh; rl = rl; rh = rh }

twice_is : (h l : ℕ) → h < 4294967296 → l < 4294967296 → twice (score h) (score l) ≡ score ((2 * h + l / 2147483648) % 4294967296)
twice_is h l p q =
    ap₂ add_one_if (negative_is l q) (sum_of h h p p)
    ∙ ⊎_elim
    (λ lt. ap (λ b. add_one_if b (score ((h + h) % 4294967296))) (lt-leb 2147483648 l lt) ∙ ap score (omega arith))
    (λ g. ap (λ b. add_one_if b (score ((h + h) % 4294967296))) (le-leb 2147483648 l g) ∙ plus_one ((h + h) % 4294967296) (omega arith) ∙ ap score (omega arith))
    (cases_lt l 2147483648)

-- the lines' choice
chosen : (x y z : Bool) → is_in (exactly (pos 1)) (one_at z (one_at y (one_at x (pos 0)))) ≡ (z || (y || x))
chosen true true true = refl
chosen true true false = refl
chosen true false true = refl
chosen true false false = refl
chosen false true true = refl
chosen false true false = refl
chosen false false true = refl
chosen false false false = refl

both_le : (m n : ℕ) → (nat_le m n && nat_le n m) ≡ (m == n)
both_le m n = grind arith

-- the order of pairs, by words
pair_order : (h l bh bl : ℕ) → l < 4294967296 → bl < 4294967296 → ((nat_le h bh && nat_le bh h) && nat_le bl l) || (nat_lt bh h || false) ≡ nat_le (pair bh bl) (pair h l)
pair_order h l bh bl p q = grind arith

or_true : (x y : Bool) → (x || (y || true)) ≡ true
or_true true y = refl
or_true false true = refl
or_true false false = refl

-- the choice is whether the divisor can be taken from twice the remainder and the next bit
chosen_is : (rh rl d bh bl : ℕ) → rl < 4294967296 → bl < 4294967296 → bh < 4294967296 → rh < 4294967296 → d < 2
    → (((nat_le ((2 * rh + rl / 2147483648) % 4294967296) bh && nat_le bh ((2 * rh + rl / 2147483648) % 4294967296)) && nat_le bl ((2 * rl + d) % 4294967296)) || (nat_lt bh ((2 * rh + rl / 2147483648) % 4294967296) || nat_le 2147483648 rh))
    ≡ nat_le (pair bh bl) (2 * pair rh rl + d)
chosen_is rh rl d bh bl p q r s e =
    ⊎_elim
    (λ lt.
    let x : nat_le 2147483648 rh ≡ false = lt-leb 2147483648 rh lt in
    let same : pair ((2 * rh + rl / 2147483648) % 4294967296) ((2 * rl + d) % 4294967296) ≡ 2 * pair rh rl + d = omega arith in
    ap (λ b. ((nat_le ((2 * rh + rl / 2147483648) % 4294967296) bh && nat_le bh ((2 * rh + rl / 2147483648) % 4294967296)) && nat_le bl ((2 * rl + d) % 4294967296)) || (nat_lt bh ((2 * rh + rl / 2147483648) % 4294967296) || b)) x
    ∙ pair_order ((2 * rh + rl / 2147483648) % 4294967296) ((2 * rl + d) % 4294967296) bh bl (omega arith) q
    ∙ ap (nat_le (pair bh bl)) same)
    (λ ge.
    let x : nat_le 2147483648 rh ≡ true = le-leb 2147483648 rh ge in
    let y : nat_le (pair bh bl) (2 * pair rh rl + d) ≡ true = le-leb (pair bh bl) (2 * pair rh rl + d) (omega arith) in
    ap (λ b. ((nat_le ((2 * rh + rl / 2147483648) % 4294967296) bh && nat_le bh ((2 * rh + rl / 2147483648) % 4294967296)) && nat_le bl ((2 * rl + d) % 4294967296)) || (nat_lt bh ((2 * rh + rl / 2147483648) % 4294967296) || b)) x
    ∙ or_true ((nat_le ((2 * rh + rl / 2147483648) % 4294967296) bh && nat_le bh ((2 * rh + rl / 2147483648) % 4294967296)) && nat_le bl ((2 * rl + d) % 4294967296)) (nat_lt bh ((2 * rh + rl / 2147483648) % 4294967296))
    ∙ sym y)
    (cases_lt rh 2147483648)

-- the lines from the comparison on
abbrev finish : ℤ → ℤ → ℤ → ℤ → ℤ → ℤ → ℤ → Scores
finish bl bh g0 rh rl dh dl =
    let g1 : ℤ = one_at (int_lt (flipped bh) (flipped rh)) g0 in
    let g2 : ℤ = one_at (compares equal (flipped rh) (flipped bh) && int_le (flipped bl) (flipped rl)) g1 in
    if is_in (exactly (pos 1)) g2
    then record { dl = wrapped (dl +ℤ pos 1); dh = dh; rl = wrapped (rl -ℤ bl); rh = wrapped (take_one_if (int_lt (flipped rl) (flipped bl)) rh -ℤ bh) }
    else record { dl = dl; dh = dh; rl = rl; rh = rh }

abbrev pub in_scores : ℕ → ℕ → Scores
in_scores d r = record { dl = score (d % 4294967296); dh = score (d / 4294967296); rl = score (r % 4294967296); rh = score (r / 4294967296) }

-- the divisor taken from the remainder, by words
taken_high : (h l bh bl : ℕ) → h < 4294967296 → l < 4294967296 → bh < 4294967296 → bl < 4294967296
    → wrapped (take_one_if (nat_lt l bl) (score h) -ℤ score bh) ≡ score ((pair h l + (18446744073709551616 - pair bh bl)) % 18446744073709551616 / 4294967296)
taken_high h l bh bl p q r s =
    ⊎_elim
    (λ lt. ap (λ b. wrapped (take_one_if b (score h) -ℤ score bh)) (lt-ltb l bl lt) ∙ ap (λ z. wrapped (z -ℤ score bh)) (minus_one h p) ∙ difference_of ((h + 4294967295) % 4294967296) bh (omega arith) r ∙ ap score (omega arith))
    (λ g. ap (λ b. wrapped (take_one_if b (score h) -ℤ score bh)) (le-ltb l bl g) ∙ difference_of h bh p r ∙ ap score (omega arith))
    (cases_lt l bl)

abbrev pub out : ℤ → ℤ → ℤ → ℤ → ℤ → ℤ → Bool → Bool → Scores
out bl bh rh rl dh dl c b =
    if c
    then record { dl = wrapped (dl +ℤ pos 1); dh = dh; rl = wrapped (rl -ℤ bl); rh = wrapped (take_one_if b rh -ℤ bh) }
    else record { dl = dl; dh = dh; rl = rl; rh = rh }

finish_is : (bl bh x h l dh dl : ℕ) → bl < 4294967296 → bh < 4294967296 → h < 4294967296 → l < 4294967296
    → finish (score bl) (score bh) (one_at (nat_le 2147483648 x) (pos 0)) (score h) (score l) (score dh) (score dl)
    ≡ out (score bl) (score bh) (score h) (score l) (score dh) (score dl) (((nat_le h bh && nat_le bh h) && nat_le bl l) || (nat_lt bh h || nat_le 2147483648 x)) (nat_lt l bl)
finish_is bl bh x h l dh dl p q r s =
    let o : Bool → Bool → Scores = out (score bl) (score bh) (score h) (score l) (score dh) (score dl) in
    let eq : (compares equal (flipped (score h)) (flipped (score bh)) && int_le (flipped (score bl)) (flipped (score l))) ≡ ((nat_le h bh && nat_le bh h) && nat_le bl l) =
    ap₂ (λ a b. a && b) (ap₂ (λ a b. a && b) (flipped_le h bh r q) (flipped_le bh h q r)) (flipped_le bl l p s) in
    let gt : int_lt (flipped (score bh)) (flipped (score h)) ≡ nat_lt bh h = flipped_lt bh h q r in
    ap₂ (λ z y. o (is_in (exactly (pos 1)) (one_at z (one_at y (one_at (nat_le 2147483648 x) (pos 0))))) (int_lt (flipped (score l)) (flipped (score bl)))) eq gt
    ∙ ap₂ o (chosen (nat_le 2147483648 x) (nat_lt bh h) ((nat_le h bh && nat_le bh h) && nat_le bl l)) (flipped_lt l bl s p)

-- the scores of both ways
taken_way : (dl dh rl rh bl bh : ℕ) → dl < 4294967296 → dh < 4294967296 → rl < 4294967296 → rh < 4294967296 → bl < 4294967296 → bh < 4294967296
    → pair rh rl < pair bh bl → pair bh bl ≤ 2 * pair rh rl + pair dh dl / 9223372036854775808
    → out (score bl) (score bh) (score ((2 * rh + rl / 2147483648) % 4294967296)) (score ((2 * rl + dh / 2147483648) % 4294967296)) (score ((2 * dh + dl / 2147483648) % 4294967296)) (score ((dl + dl) % 4294967296)) true (nat_lt ((2 * rl + dh / 2147483648) % 4294967296) bl)
    ≡ in_scores (2 * (pair dh dl % 9223372036854775808) + 1) (2 * pair rh rl + pair dh dl / 9223372036854775808 - pair bh bl)
taken_way dl dh rl rh bl bh a b c d e f lt le =
    let x1 : wrapped (score ((dl + dl) % 4294967296) +ℤ pos 1) ≡ score ((2 * (pair dh dl % 9223372036854775808) + 1) % 4294967296) = plus_one ((dl + dl) % 4294967296) (omega arith) ∙ ap score (omega arith) in
    let x2 : score ((2 * dh + dl / 2147483648) % 4294967296) ≡ score ((2 * (pair dh dl % 9223372036854775808) + 1) / 4294967296) = ap score (omega arith) in
    let x3 : wrapped (score ((2 * rl + dh / 2147483648) % 4294967296) -ℤ score bl) ≡ score ((2 * pair rh rl + pair dh dl / 9223372036854775808 - pair bh bl) % 4294967296) = difference_of ((2 * rl + dh / 2147483648) % 4294967296) bl (omega arith) e ∙ ap score (omega arith) in
    let x4 : wrapped (take_one_if (nat_lt ((2 * rl + dh / 2147483648) % 4294967296) bl) (score ((2 * rh + rl / 2147483648) % 4294967296)) -ℤ score bh) ≡ score ((2 * pair rh rl + pair dh dl / 9223372036854775808 - pair bh bl) / 4294967296) = taken_high ((2 * rh + rl / 2147483648) % 4294967296) ((2 * rl + dh / 2147483648) % 4294967296) bh bl (omega arith) (omega arith) f e ∙ ap score (omega arith) in
    λ i. record { dl = x1 i; dh = x2 i; rl = x3 i; rh = x4 i }

kept_way : (dl dh rl rh bl bh : ℕ) → dl < 4294967296 → dh < 4294967296 → rl < 4294967296 → rh < 4294967296 → bl < 4294967296 → bh < 4294967296
    → 2 * pair rh rl + pair dh dl / 9223372036854775808 < pair bh bl
    → out (score bl) (score bh) (score ((2 * rh + rl / 2147483648) % 4294967296)) (score ((2 * rl + dh / 2147483648) % 4294967296)) (score ((2 * dh + dl / 2147483648) % 4294967296)) (score ((dl + dl) % 4294967296)) false (nat_lt ((2 * rl + dh / 2147483648) % 4294967296) bl)
    ≡ in_scores (2 * (pair dh dl % 9223372036854775808)) (2 * pair rh rl + pair dh dl / 9223372036854775808)
kept_way dl dh rl rh bl bh a b c d e f lt =
    let x1 : score ((dl + dl) % 4294967296) ≡ score (2 * (pair dh dl % 9223372036854775808) % 4294967296) = ap score (omega arith) in
    let x2 : score ((2 * dh + dl / 2147483648) % 4294967296) ≡ score (2 * (pair dh dl % 9223372036854775808) / 4294967296) = ap score (omega arith) in
    let x3 : score ((2 * rl + dh / 2147483648) % 4294967296) ≡ score ((2 * pair rh rl + pair dh dl / 9223372036854775808) % 4294967296) = ap score (omega arith) in
    let x4 : score ((2 * rh + rl / 2147483648) % 4294967296) ≡ score ((2 * pair rh rl + pair dh dl / 9223372036854775808) / 4294967296) = ap score (omega arith) in
    λ i. record { dl = x1 i; dh = x2 i; rl = x3 i; rh = x4 i }

abbrev pub turn_scores : Turn → Scores
turn_scores t = in_scores t.dividend t.remainder

-- the lines of a turn do a turn
pub turn_lines_is : (dl dh rl rh bl bh : ℕ) → dl < 4294967296 → dh < 4294967296 → rl < 4294967296 → rh < 4294967296 → bl < 4294967296 → bh < 4294967296
    → pair rh rl < pair bh bl
    → turn_lines (score bl) (score bh) (record { dl = score dl; dh = score dh; rl = score rl; rh = score rh }) ≡ turn_scores (turned (pair bh bl) (record { dividend = pair dh dl; remainder = pair rh rl }))
turn_lines_is dl dh rl rh bl bh a b c d e f lt =
    let s : (ℤ → ℤ → ℤ → ℤ → ℤ → Scores) = finish (score bl) (score bh) in
    let r : ℕ = 2 * pair rh rl + pair dh dl / 9223372036854775808 in
    let bit : pair dh dl / 9223372036854775808 ≡ dh / 2147483648 = omega arith in
    let h : ℕ = (2 * rh + rl / 2147483648) % 4294967296 in
    let l : ℕ = (2 * rl + dh / 2147483648) % 4294967296 in
    let o : Bool → Scores = λ t. out (score bl) (score bh) (score h) (score l) (score ((2 * dh + dl / 2147483648) % 4294967296)) (score ((dl + dl) % 4294967296)) t (nat_lt l bl) in
    let first : s (one_at (is_in (up_to (negsuc 0)) (score rh)) (pos 0)) (twice (score rh) (score rl)) (twice (score rl) (score dh)) (twice (score dh) (score dl)) (wrapped (score dl +ℤ score dl))
    ≡ s (one_at (nat_le 2147483648 rh) (pos 0)) (score h) (score l) (score ((2 * dh + dl / 2147483648) % 4294967296)) (score ((dl + dl) % 4294967296)) =
    λ i. s (one_at (negative_is rh d i) (pos 0)) (twice_is rh rl d c i) (twice_is rl dh c b i) (twice_is dh dl b a i) (sum_of dl dl a a i) in
    first
    ∙ finish_is bl bh rh h l ((2 * dh + dl / 2147483648) % 4294967296) ((dl + dl) % 4294967296) e f (omega arith) (omega arith)
    ∙ ap o (chosen_is rh rl (dh / 2147483648) bh bl c e f d (omega arith) ∙ ap (λ x. nat_le (pair bh bl) (2 * pair rh rl + x)) (sym bit))
    ∙ ⊎_elim
    (λ k. ap o (lt-leb (pair bh bl) r k) ∙ kept_way dl dh rl rh bl bh a b c d e f k
    ∙ sym (ap (λ t. turn_scores (if t then record { dividend = 2 * (pair dh dl % 9223372036854775808) + 1; remainder = r - pair bh bl } else record { dividend = 2 * (pair dh dl % 9223372036854775808); remainder = r })) (lt-leb (pair bh bl) r k)))
    (λ k. ap o (le-leb (pair bh bl) r k) ∙ taken_way dl dh rl rh bl bh a b c d e f lt k
    ∙ sym (ap (λ t. turn_scores (if t then record { dividend = 2 * (pair dh dl % 9223372036854775808) + 1; remainder = r - pair bh bl } else record { dividend = 2 * (pair dh dl % 9223372036854775808); remainder = r })) (le-leb (pair bh bl) r k)))
    (cases_lt r (pair bh bl))
