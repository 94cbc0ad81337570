-- Bounds of numbers that are read seven bits at a time, and the places of a cursor.
use Rattle.std.proofs.Common.{◌≡◌, ℕ, ◌+◌, ◌-◌, ◌*◌, ◌^◌, ◌<◌, ◌≤◌, List, length, take, drop, Some, sym, ap, subst, ◌∙◌, arith}
use Rattle.std.proofs.Math.Pow.{pow_mono}
use Rattle.std.proofs.lemmas.Nat.{pow-add}
use Rattle.std.proofs.lemmas.List.{length-take, length-drop}
use Rattle.wm_frame.specs.Reading.{Reader}
use Rattle.wm_frame.proofs.Readers.{IsBytes, IsBytes-take, IsBytes-drop, Reads, front_of}

pub more_below : (bits high b : ℕ) → 7 < bits → high < 2 ^ (bits - 7) → b < 128 → 128 * high + b < 2 ^ bits
more_below bits high b lt small low =
    let e : bits ≡ 7 + (bits - 7) = omega arith in
    let p : 2 ^ bits ≡ 128 * 2 ^ (bits - 7) = ap (λ k. 2 ^ k) e ∙ pow-add 2 7 (bits - 7) in
    omega (arith, p)

pub below_64 : (bits n : ℕ) → bits ≤ 64 → n < 2 ^ bits → n < 2 ^ 64
below_64 bits n le lt = let m : 2 ^ bits ≤ 2 ^ 64 = pow_mono le in omega (arith, m)

pub above_7 : (bits : ℕ) → 7 ≤ bits → 128 ≤ 2 ^ bits
above_7 bits le = let m : 2 ^ 7 ≤ 2 ^ bits = pow_mono le in omega (arith, m)

pub above_8 : (bits : ℕ) → 8 ≤ bits → 256 ≤ 2 ^ bits
above_8 bits le = let m : 2 ^ 8 ≤ 2 ^ bits = pow_mono le in omega (arith, m)

pub ruleset powers = (more_below, below_64, above_7, above_8)

-- what is read at a cursor is spelled by what the cursor passes
pub read_at : {A : Type 0} (G : A → List ℕ → Type 0) (r : Reader A) → Reads G r → (bytes : List ℕ) (at end : ℕ) (x : A) (rest : List ℕ) → IsBytes bytes → at ≤ end → end ≤ length bytes
    → r (take (end - at) (drop at bytes)) ≡ Some (x, rest) → G x (take (end - length rest - at) (take (end - at) (drop at bytes)))
read_at G r reads bytes at end x rest fits le within e =
    let w = take (end - at) (drop at bytes) in
    let f = front_of G w x rest (reads.takes w (x, rest) (IsBytes-take (end - at) (drop at bytes) (IsBytes-drop at bytes fits)) e) in
    let l : length w ≡ end - at = omega (arith, length-take (end - at) (drop at bytes), length-drop at bytes) in
    let k : end - length rest - at ≡ length w - length rest = omega (arith, f.within) in
    subst (λ i. G x (take i w)) (sym k) f.spells
