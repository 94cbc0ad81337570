-- Numbers: what is read is spelled, and what is spelled is read, whatever follows.
use Rattle.std.proofs.Common.{◌≡◌, ℕ, ◌+◌, ◌-◌, ◌*◌, ◌^◌, ◌<◌, ◌≤◌, true, cond, ltb, List, [], ◌∷◌, ◌++◌, Option, Some, None, refl, ap, subst, arith, inl, inr, ltb-true, ℤ, pos, ◌+ℤ◌}
use Rattle.std.specs.Prelude.{◌*ℤ◌}
use Rattle.std.proofs.lemmas.Bool.{ltb-false, le-ltb, lt-ltb}
use Rattle.wm_ast.specs.Number.{IsUnsigned, IsSigned, below_zero}
use Rattle.wm_frame.specs.Reading.{unsigned_last, unsigned_more, unsigned_at, signed_last, signed_more, signed_at}
use Rattle.wm_frame.specs.Front.{AtFront, Unsigned, Signed}
use Rattle.wm_frame.proofs.Readers.{IsBytes, IsBytes-rest, if_some, if_none, chosen, Reads}

unsigned_again : (bits : ℕ) (front : List ℕ) (n : ℕ) (rest : List ℕ) → IsUnsigned bits front n → unsigned_at bits (front ++ rest) ≡ Some (n, rest)
unfolding unsigned_at
unsigned_again bits [] n rest h = absurd h
unsigned_again bits (b ∷ []) n rest h =
    let low = lt-ltb b 128 h.0 in
    let fits = lt-ltb b (2 ^ bits) h.1 in
    rw (low, fits, h.2) refl
unsigned_again bits (b ∷ c ∷ bs) n rest h =
    let high = le-ltb b 128 h.0 in
    let more = lt-ltb 7 bits h.2 in
    let e : 128 * h.3.0 + (b - 128) ≡ n = omega (arith, h.3.1) in
    let ih = unsigned_again (bits - 7) (c ∷ bs) h.3.0 rest h.3.2 in
    rw (high, ih, more, e) refl

-- one more byte before a number
unsigned_longer : (bits b n : ℕ) (front : List ℕ) → 128 ≤ b → b < 256 → 7 < bits → IsUnsigned (bits - 7) front n → IsUnsigned bits (b ∷ front) (128 * n + (b - 128))
unsigned_longer bits b n [] h l m s = absurd s
unsigned_longer bits b n (c ∷ front) h l m s = (h, l, m, (n, omega arith, s))

unsigned_high : (bits b : ℕ) (r : Option (ℕ × List ℕ)) (y : ℕ × List ℕ) → unsigned_more bits b r ≡ Some y → (h : ℕ × List ℕ) × (r ≡ Some h) × (7 < bits) × ((128 * h.0 + (b - 128), h.1) ≡ y)
unsigned_high bits b None y e = absurd cc
unsigned_high bits b (Some h) y e =
    let g = if_some (ltb 7 bits) (128 * h.0 + (b - 128), h.1) y e in
    (h, refl, ltb-true 7 bits g.0, g.1)

unsigned_takes : (bits : ℕ) (bytes : List ℕ) (y : ℕ × List ℕ) → IsBytes bytes → unsigned_at bits bytes ≡ Some y → AtFront (Unsigned bits) bytes y.0 y.1
unfolding unsigned_at
unsigned_takes bits [] y fits e = absurd cc
unsigned_takes bits (b ∷ bs) y fits e =
    elim (chosen (ltb b 128) (unsigned_last bits b bs) (unsigned_more bits b (unsigned_at (bits - 7) bs)) (Some y) e) [
      | inl l ↦
          let g = if_some (ltb b (2 ^ bits)) (b, bs) y l.1 in
          subst (λ (z : ℕ × List ℕ). AtFront (Unsigned bits) (b ∷ bs) z.0 z.1) g.1
          (record { front = b ∷ []; parts = refl; spells = (ltb-true b 128 l.0, ltb-true b (2 ^ bits) g.0, refl) })
      | inr r ↦
          let g = unsigned_high bits b (unsigned_at (bits - 7) bs) y r.1 in
          let ih = unsigned_takes (bits - 7) bs g.0 (IsBytes-rest b bs fits) g.1 in
          subst (λ (z : ℕ × List ℕ). AtFront (Unsigned bits) (b ∷ bs) z.0 z.1) g.3
          (record { front = b ∷ ih.front; parts = ap (λ (l : List ℕ). b ∷ l) ih.parts; spells = unsigned_longer bits b g.0.0 ih.front (ltb-false b 128 r.0) (fits 0) g.2 ih.spells })
    ]

pub unsigned_reads : (bits : ℕ) → Reads (Unsigned bits) (unsigned_at bits)
unsigned_reads bits = record { again = unsigned_again bits; takes = unsigned_takes bits }

signed_again : (bits : ℕ) (front : List ℕ) (n : ℤ) (rest : List ℕ) → IsSigned bits front n → signed_at bits (front ++ rest) ≡ Some (n, rest)
unfolding signed_at
signed_again bits [] n rest h = absurd h
signed_again bits (b ∷ []) n rest (inl h) =
    let low : ltb b 128 ≡ true = lt-ltb b 128 (omega (arith, h.0)) in
    rw (low, lt-ltb b 64 h.0, lt-ltb b (2 ^ (bits - 1)) h.1, h.2) refl
signed_again bits (b ∷ []) n rest (inr h) = rw (lt-ltb b 128 h.1, le-ltb b 64 h.0, le-ltb (b + 2 ^ (bits - 1)) 128 h.2, h.3) refl
signed_again bits (b ∷ c ∷ bs) n rest h =
    let ih = signed_again (bits - 7) (c ∷ bs) h.3.0 rest h.3.2 in
    rw (le-ltb b 128 h.0, ih, lt-ltb 7 bits h.2, ← h.3.1) refl

signed_longer : (bits b : ℕ) (n : ℤ) (front : List ℕ) → 128 ≤ b → b < 256 → 7 < bits → IsSigned (bits - 7) front n → IsSigned bits (b ∷ front) ((pos 128 *ℤ n) +ℤ pos (b - 128))
signed_longer bits b n [] h l m s = absurd s
signed_longer bits b n (c ∷ front) h l m s = (h, l, m, (n, refl, s))

signed_high : (bits b : ℕ) (r : Option (ℤ × List ℕ)) (y : ℤ × List ℕ) → signed_more bits b r ≡ Some y → (h : ℤ × List ℕ) × (r ≡ Some h) × (7 < bits) × (((pos 128 *ℤ h.0) +ℤ pos (b - 128), h.1) ≡ y)
signed_high bits b None y e = absurd cc
signed_high bits b (Some h) y e =
    let g = if_some (ltb 7 bits) ((pos 128 *ℤ h.0) +ℤ pos (b - 128), h.1) y e in
    (h, refl, ltb-true 7 bits g.0, g.1)

signed_last_takes : (bits b : ℕ) (bs : List ℕ) (y : ℤ × List ℕ) → b < 128 → signed_last bits b bs ≡ Some y → AtFront (Signed bits) (b ∷ bs) y.0 y.1
signed_last_takes bits b bs y low e =
    elim (chosen (ltb b 64) (cond (ltb b (2 ^ (bits - 1))) (Some (pos b, bs)) None) (cond (ltb (b + 2 ^ (bits - 1)) 128) None (Some (below_zero b, bs))) (Some y) e) [
      | inl l ↦
          let g = if_some (ltb b (2 ^ (bits - 1))) (pos b, bs) y l.1 in
          subst (λ (z : ℤ × List ℕ). AtFront (Signed bits) (b ∷ bs) z.0 z.1) g.1
          (record { front = b ∷ []; parts = refl; spells = inl (ltb-true b 64 l.0, ltb-true b (2 ^ (bits - 1)) g.0, refl) })
      | inr r ↦
          let g = if_none (ltb (b + 2 ^ (bits - 1)) 128) (below_zero b, bs) y r.1 in
          subst (λ (z : ℤ × List ℕ). AtFront (Signed bits) (b ∷ bs) z.0 z.1) g.1
          (record { front = b ∷ []; parts = refl; spells = inr (ltb-false b 64 r.0, low, ltb-false (b + 2 ^ (bits - 1)) 128 g.0, refl) })
    ]

signed_takes : (bits : ℕ) (bytes : List ℕ) (y : ℤ × List ℕ) → IsBytes bytes → signed_at bits bytes ≡ Some y → AtFront (Signed bits) bytes y.0 y.1
unfolding signed_at
signed_takes bits [] y fits e = absurd cc
signed_takes bits (b ∷ bs) y fits e =
    elim (chosen (ltb b 128) (signed_last bits b bs) (signed_more bits b (signed_at (bits - 7) bs)) (Some y) e) [
      | inl l ↦ signed_last_takes bits b bs y (ltb-true b 128 l.0) l.1
      | inr r ↦
          let g = signed_high bits b (signed_at (bits - 7) bs) y r.1 in
          let ih = signed_takes (bits - 7) bs g.0 (IsBytes-rest b bs fits) g.1 in
          subst (λ (z : ℤ × List ℕ). AtFront (Signed bits) (b ∷ bs) z.0 z.1) g.3
          (record { front = b ∷ ih.front; parts = ap (λ (l : List ℕ). b ∷ l) ih.parts; spells = signed_longer bits b g.0.0 ih.front (ltb-false b 128 r.0) (fits 0) g.2 ih.spells })
    ]

pub signed_reads : (bits : ℕ) → Reads (Signed bits) (signed_at bits)
signed_reads bits = record { again = signed_again bits; takes = signed_takes bits }
