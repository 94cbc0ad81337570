-- The numbers of a division between two turns, and the answer that its scores tell.
use Rattle.std.proofs.Common.{◌≡◌, ◌<◌, ◌≤◌, ◌+◌, ◌-◌, ◌*◌, ◌/◌, ◌%◌, ◌^◌, ℕ, ℤ, pos, Option, Some, Bool, false, refl, sym, ap, ap₂, subst, ◌∙◌, codes, mul_assoc, mul_comm, mod-lt, arith}
use Rattle.std.specs.Int.{w64, cast_signed}
use Rattle.std.proofs.lemmas.Nat.{div-add-mod', div-mul-add, div_below, mod-mul-add, mul-add-lt, one_shl, pow-add, pow_pos, shl_whole}
use Rattle.std.proofs.Math.Nat.{add-mul, mul-add-div_right, mul-add-mod_self_right}
use Rattle.mc_cmd.specs.Command.{exactly}
use Rattle.mc_cmd.specs.World.{some_is_in}
use Rattle.wm_ast.specs.declared.operator.BinaryOp.{BinaryOp}
use Rattle.wm_ast.specs.declared.operator.BinaryOp.TheVariants.{DivS, DivU, RemS, RemU}
use Rattle.cc_div64.specs.Law.{Dividing, Signed, result_of, signed_by}
use Rattle.cc_div64.specs.Turn.{After}
use Rattle.cc_line.specs.State.{State}
use Rattle.mc_inspect.specs.declared.reading.Scores.{Scores}
use Rattle.mc_inspect.specs.steps.Read.{HasScores}
use Rattle.mc_inspect.specs.steps.Turns.{AreTurns, signed_answer, turn_of, whole_number}

-- ---- the number that is divided

module _ (d r v left : ℕ) (few : left ≤ 8) (below : r < v) (dividend : d < 18446744073709551616) (remainder : r < 18446744073709551616) where
  -- the quotient so far, and the bits of the dividend that are still to come
  abbrev so_far : ℕ
  so_far = d % 2 ^ (64 - 8 * left)

  abbrev to_come : ℕ
  to_come = d / 2 ^ (64 - 8 * left)

  abbrev rest : ℕ
  rest = r * 2 ^ (8 * left) + to_come

  some : 0 < v
  some = omega arith

  both : 2 ^ (64 - 8 * left) * 2 ^ (8 * left) ≡ 18446744073709551616
  both = sym (pow-add 2 (64 - 8 * left) (8 * left)) ∙ (let e : 64 - 8 * left + 8 * left ≡ 64 = omega arith in ap (λ (k : ℕ). 2 ^ k) e)

  so_far_below : so_far < 2 ^ (64 - 8 * left)
  so_far_below = mod-lt d (pow_pos (64 - 8 * left))

  to_come_below : to_come < 2 ^ (8 * left)
  to_come_below =
      div_below d (2 ^ (64 - 8 * left)) (2 ^ (8 * left)) (pow_pos (64 - 8 * left))
      (subst (λ (k : ℕ). d < k) (sym both ∙ mul_comm (2 ^ (64 - 8 * left)) (2 ^ (8 * left))) dividend)

  rest_below : rest / v < 2 ^ (8 * left)
  rest_below = div_below rest v (2 ^ (8 * left)) some (mul-add-lt r (2 ^ (8 * left)) to_come v below to_come_below)

  fits : so_far * 2 ^ (8 * left) + rest / v < 18446744073709551616
  fits =
      subst (λ (k : ℕ). so_far * 2 ^ (8 * left) + rest / v < k) (mul_comm (2 ^ (8 * left)) (2 ^ (64 - 8 * left)) ∙ both)
      (mul-add-lt so_far (2 ^ (8 * left)) (rest / v) (2 ^ (64 - 8 * left)) so_far_below rest_below)

  -- the number that is divided, as a multiple of the divisor and the rest
  parts : whole_number d r v left ≡ so_far * 2 ^ (8 * left) * v + rest
  parts =
      let e : (so_far * v + r) * 2 ^ (8 * left) ≡ so_far * v * 2 ^ (8 * left) + r * 2 ^ (8 * left) = add-mul (so_far * v) r (2 ^ (8 * left)) in
      let f : so_far * v * 2 ^ (8 * left) ≡ so_far * 2 ^ (8 * left) * v =
      mul_assoc so_far v (2 ^ (8 * left)) ∙ ap (λ (k : ℕ). so_far * k) (mul_comm v (2 ^ (8 * left))) ∙ sym (mul_assoc so_far (2 ^ (8 * left)) v) in
      omega arith

  quotient : so_far * 2 ^ (8 * left) + rest / v ≡ whole_number d r v left / v
  quotient = sym (ap (λ (n : ℕ). n / v) parts ∙ mul-add-div_right some (so_far * 2 ^ (8 * left)) rest)

  remains : rest % v ≡ whole_number d r v left % v
  remains = sym (ap (λ (n : ℕ). n % v) parts ∙ mul-add-mod_self_right (so_far * 2 ^ (8 * left)) v rest)

  -- shifts lose nothing

  unit : 1 * 2 ^ (64 - 8 * left) % 340282366920938463463374607431768211456 ≡ 2 ^ (64 - 8 * left)
  unit = one_shl (64 - 8 * left) 128 (omega arith)

  above : so_far * 2 ^ (8 * left) % 340282366920938463463374607431768211456 ≡ so_far * 2 ^ (8 * left)
  above = shl_whole so_far (64 - 8 * left) (8 * left) 128 so_far_below (omega arith)

  shifted : r * 2 ^ (8 * left) % 340282366920938463463374607431768211456 ≡ r * 2 ^ (8 * left)
  shifted = shl_whole r 64 (8 * left) 128 remainder (omega arith)

  -- the turns go on from there

  pub is_after : After (whole_number d r v left) v (8 * left) (64 - 8 * left) (turn_of d r)
  is_after = record {
    quotient = so_far;
    below = below;
    top = div-mul-add (so_far * v + r) (2 ^ (8 * left)) to_come to_come_below;
    small = so_far_below;
    rest =
        sym (div-add-mod' d (2 ^ (64 - 8 * left)))
        ∙ ap (λ (k : ℕ). k * 2 ^ (64 - 8 * left) + so_far) (sym (mod-mul-add (so_far * v + r) (2 ^ (8 * left)) to_come to_come_below));
  }

-- ---- as it is computed

module _ (d r v left : ℕ) (few : left ≤ 8) (below : r < v) (dividend : d < 18446744073709551616) (remainder : r < 18446744073709551616)
    (D R V : ℕ) (is_d : D ≡ d) (is_r : R ≡ r) (is_v : V ≡ v) where
  abbrev most : ℕ
  most = 340282366920938463463374607431768211456

  abbrev wide : ℕ
  wide = 1 * 2 ^ (64 - 8 * left) % most

  quotient_same : D % wide * 2 ^ (8 * left) % most + (R * 2 ^ (8 * left) % most + D / wide) / V ≡ d % 2 ^ (64 - 8 * left) * 2 ^ (8 * left) + (r * 2 ^ (8 * left) + d / 2 ^ (64 - 8 * left)) / v
  quotient_same =
      let u = unit d r v left few below dividend remainder in
      (λ i. is_d i % u i * 2 ^ (8 * left) % most + (is_r i * 2 ^ (8 * left) % most + is_d i / u i) / is_v i)
      ∙ ap₂ (λ (a b : ℕ). a + (b + d / 2 ^ (64 - 8 * left)) / v) (above d r v left few below dividend remainder) (shifted d r v left few below dividend remainder)

  pub quotient_fits : D % wide * 2 ^ (8 * left) % most + (R * 2 ^ (8 * left) % most + D / wide) / V < 18446744073709551616
  quotient_fits = subst (λ (n : ℕ). n < 18446744073709551616) (sym quotient_same) (fits d r v left few below dividend remainder)

  pub quotient_is : D % wide * 2 ^ (8 * left) % most + (R * 2 ^ (8 * left) % most + D / wide) / V ≡ whole_number d r v left / v
  quotient_is = quotient_same ∙ quotient d r v left few below dividend remainder

  pub rest_is : (R * 2 ^ (8 * left) % most + D / wide) % V ≡ whole_number d r v left % v
  rest_is =
      let u = unit d r v left few below dividend remainder in
      (λ i. (is_r i * 2 ^ (8 * left) % most + is_d i / u i) % is_v i)
      ∙ ap (λ (b : ℕ). (b + d / 2 ^ (64 - 8 * left)) % v) (shifted d r v left few below dividend remainder)
      ∙ remains d r v left few below dividend remainder

-- ---- the answer

abbrev negated_of : BinaryOp → Option ℤ → Bool
negated_of DivS s = some_is_in (exactly (pos 1)) s
negated_of RemS s = some_is_in (exactly (pos 1)) s
negated_of _ s = false

its_sign : (op : BinaryOp) (p : State) (s : Option ℤ) → p.scores (codes "#s") ≡ s → Signed op (negated_of op s) p
its_sign DivS p s e = ap (some_is_in (exactly (pos 1))) e
its_sign RemS p s e = ap (some_is_in (exactly (pos 1))) e
its_sign _ p s e = refl

its_answer : (op : BinaryOp) (n v : ℕ) (s : Option ℤ) → cast_signed w64 (signed_by (negated_of op s) (result_of op n v)) ≡ signed_answer op (n / v) (n % v) s
its_answer DivS n v s = refl
its_answer DivU n v s = refl
its_answer RemS n v s = refl
its_answer RemU n v s = refl
its_answer _ n v s = refl

pub division_found : (op : BinaryOp) (left : ℕ) (x : Scores) (p : State) → HasScores x p → left ≤ 8 → x.g ≡ Some (pos left)
    → (d r v q k : ℕ) → AreTurns d r v p → q ≡ whole_number d r v left / v → k ≡ whole_number d r v left % v
    → (z : ℤ) → z ≡ signed_answer op q k x.s → Dividing op z left p
division_found op left x p h few g d r v q k t is_q is_k z is_z =
    let n : ℕ = whole_number d r v left in
    let small : r < 18446744073709551616 = omega (arith, t.below, t.bounded) in
    record {
      number = n;
      divisor = v;
      negated = negated_of op x.s;
      turn = turn_of d r;
      told = h.g ∙ g;
      few = few;
      after = is_after d r v left few t.below t.wide small;
      bounded = t.bounded;
      wide = t.wide;
      standing = t.standing;
      signed = its_sign op p x.s h.s;
      answer = its_answer op n v x.s ∙ sym (is_z ∙ ap₂ (λ (i j : ℕ). signed_answer op i j x.s) is_q is_k);
    }
