-- The low byte and the low half of a word, with copies of their sign.
use Rattle.std.proofs.Common.{◌≡◌, ℕ, ◌%◌, ℤ, FitsSigned, arith, sym, ◌∙◌}
use Rattle.std.proofs.lemmas.Int.{to_z-of_z}
use Rattle.std.specs.Int.{w8, w16, w32, cast_signed, cast_unsigned}
use Rattle.wm_ast.specs.Integer.{iextend_s}
use Rattle.cc_line.proofs.Words.{score}
use Rattle.cc_line.proofs.Rests.{lessened, lessened_is, byte_fits, half_fits}

back : (z : ℤ) → FitsSigned w32 z → z ≡ score (cast_unsigned w32 z)
back z f = sym (to_z-of_z w32 z f)

-- ---- signs: `#m = #a; #m %= #k; if #m in 128..: #m -= #k`, k being 256; likewise 32768 and 65536

pub extend8_is : (m : ℕ) → lessened 256 (m % 256) ≡ score (iextend_s w8 w32 m)
extend8_is m = lessened_is 256 (m % 256) (omega arith) (omega arith) ∙ back (cast_signed w8 (m % 256)) (byte_fits (m % 256) (omega arith))

pub extend16_is : (m : ℕ) → lessened 65536 (m % 65536) ≡ score (iextend_s w16 w32 m)
extend16_is m = lessened_is 65536 (m % 65536) (omega arith) (omega arith) ∙ back (cast_signed w16 (m % 65536)) (half_fits (m % 65536) (omega arith))
