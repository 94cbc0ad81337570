-- The low half of a number of 64 bits that was made of its halves.
use Rattle.std.proofs.Common.{◌≡◌, ℕ, ◌+◌, ◌*◌, ◌%◌, ◌<◌, ℤ, FitsSigned, arith, ap, ◌∙◌}
use Rattle.std.proofs.lemmas.Int.{to_z-of_z}
use Rattle.std.specs.Int.{w32, w64, cast_signed, cast_unsigned, int_wrap}
use mir.ValLaws.{of_z_fits}
use Rattle.cc_line.proofs.Longs.{low_word}
use Rattle.cc_line.proofs.Words.{score}

below : (z : ℤ) → FitsSigned w32 z → cast_unsigned w32 z < 4294967296
below z f = (of_z_fits w32 z f).fits

pub low_back : (low high z : ℤ) → FitsSigned w32 low → FitsSigned w32 high
    → z ≡ cast_signed w64 (cast_unsigned w32 high * 4294967296 + cast_unsigned w32 low) → int_wrap w32 z ≡ low
low_back low high z f g e =
    let n : ℕ = cast_unsigned w32 high * 4294967296 + cast_unsigned w32 low in
    let a : cast_unsigned w32 low < 4294967296 = below low f in
    let b : cast_unsigned w32 high < 4294967296 = below high g in
    let r : n % 4294967296 ≡ cast_unsigned w32 low = omega arith in
    ap (λ x. int_wrap w32 x) e ∙ low_word n (omega arith) ∙ ap (λ x. score x) r ∙ to_z-of_z w32 low f
