-- Signed numbers, and bits.
use Rattle.std.proofs.Common.{◌≡◌, sym, ap, ◌∙◌, ℤ, pos}
use Rattle.std.specs.Prelude.{FitsSigned}
use Rattle.std.specs.Int.{w32, cast_signed, cast_unsigned}
use Rattle.std.proofs.lemmas.Int.{to_z-of_z}

pub back : (z : ℤ) → FitsSigned w32 z → cast_signed w32 (cast_unsigned w32 z) ≡ z
back z h = to_z-of_z w32 z h

-- a number whose bits are 0
pub zero_is : (z : ℤ) → FitsSigned w32 z → cast_unsigned w32 z ≡ 0 → z ≡ pos 0
zero_is z h e = sym (back z h) ∙ ap (cast_signed w32) e
