use Rattle.std.proofs.Common.{◌≡◌, ℕ, ◌<◌, ◌≤◌, ◌-◌, ℤ, pos, ◌+ℤ◌, sym, ap, ◌∙◌, arith, w64, subst, to_z, of_z}
use Rattle.std.specs.Prelude.{◌*ℤ◌, FitsSigned}
use Rattle.std.proofs.lemmas.Int.{ints, to_z-of_z}
use Rattle.wm_frame.specs.Reading.{IsWithin}
use Rattle.wm_frame.proofs.SignedBounds.{joined, times_fits, within_fits}
use Rattle.wm_frame.proofs.number.join.Goals as goal

-- what the machine computes is the number
computed : (bits low : ℕ) (high : ℤ) (from : ℤ) → 7 < bits → bits ≤ 64 → low < 128 → IsWithin (bits - 7) high → FitsSigned w64 high → from ≡ pos low → to_z w64 (of_z w64 (to_z w64 (of_z w64 (pos 128 *ℤ to_z w64 (of_z w64 high))) +ℤ to_z w64 (of_z w64 from))) ≡ (pos 128 *ℤ high) +ℤ pos low
computed bits low high from lt le small w f is =
    let a = to_z-of_z w64 high f in
    let b = to_z-of_z w64 (pos 128 *ℤ high) (times_fits bits high lt le w) in
    let d : to_z w64 (of_z w64 from) ≡ pos low = ap (λ z. to_z w64 (of_z w64 z)) is ∙ to_z-of_z w64 (pos low) (omega (arith, ints)) in
    let g = to_z-of_z w64 ((pos 128 *ℤ high) +ℤ pos low) (within_fits bits _ le (joined bits low high lt small w)) in
    rw (a, b, d) g

pub overflow_mul-result : goal.overflow_mul-result
overflow_mul-result c = rw (to_z-of_z w64 c.args.high c.ranges.high) (times_fits c.args.bits c.args.high c.requires.more c.requires.most c.requires.within)

pub returns-clause-value : goal.returns-clause-value
returns-clause-value c = computed c.args.bits c.args.low c.args.high c.from.result c.requires.more c.requires.most c.requires.seven c.requires.within c.ranges.high c.from.ensures

pub returns-clause-small : goal.returns-clause-small
returns-clause-small c =
    subst (IsWithin c.args.bits) (sym (computed c.args.bits c.args.low c.args.high c.from.result c.requires.more c.requires.most c.requires.seven c.requires.within c.ranges.high c.from.ensures)) (joined c.args.bits c.args.low c.args.high c.requires.more c.requires.seven c.requires.within)
