use Rattle.std.proofs.Common.{ℕ, zero, suc, ◌≡◌, ◌-◌, ◌++◌, length, drop, refl, ap, ◌∙◌, arith}
use Rattle.mc_nbt.specs.steps.Reading.{greatest}
use Rattle.mc_nbt.proofs.key.padded.Goals as goal

greatest-drop : (n m : ℕ) → drop n (greatest m) ≡ greatest (m - n)
greatest-drop zero m = let e : m - 0 ≡ m = omega arith in rw e refl
greatest-drop (suc n) zero = let e : 0 - suc n ≡ 0 = omega arith in rw e refl
greatest-drop (suc n) (suc m) = let e : suc m - suc n ≡ m - n = omega arith in rw e (greatest-drop n m)

pub returns : goal.returns
returns c =
    let key = c.args.key.now in
    ap (λ k. k ++ drop (length key) (greatest 32)) c.copy_from_slice.ensures.after ∙ ap (λ t. key ++ t) (greatest-drop (length key) 32)
