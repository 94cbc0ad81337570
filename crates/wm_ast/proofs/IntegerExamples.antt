-- What the operators give of some integers, computed.
use Rattle.std.proofs.Common.{◌≡◌, true, false, refl}
use Rattle.std.specs.Int.{w8, w16, w32, w64}
use lib.Count.{count_leading_zeros, count_trailing_zeros, ones, ones_in}
use Rattle.wm_ast.specs.Integer.{number, divides_by_zero, overflows, iadd, isub, imul, idiv_s, idiv_u, irem_s, irem_u, iand, ior, ixor, ishl, ishr_s, ishr_u, irotl, irotr, iclz, ictz, ipopcnt, ieqz, ieq, ine, ilt_s, ilt_u, igt_s, igt_u, ile_s, ile_u, ige_s, ige_u, wrap, extend_s, extend_u, iextend_s}

iadd_examples :
    (iadd w32 4294967295 2 ≡ 1)
    × (iadd w64 18446744073709551615 2 ≡ 1)
iadd_examples = (refl, refl)

isub_examples :
    (isub w32 1 2 ≡ 4294967295)
    × (isub w64 1 2 ≡ 18446744073709551615)
isub_examples = (refl, refl)

imul_examples :
    (imul w32 4294967295 4294967295 ≡ 1)
    × (imul w32 2147483648 2 ≡ 0)
    × (imul w64 18446744073709551615 18446744073709551615 ≡ 1)
    × (imul w64 9223372036854775808 2 ≡ 0)
imul_examples = (refl, refl, refl, refl)

idiv_s_examples :
    (idiv_s w32 4294967289 2 ≡ number 4294967293)
    × (idiv_s w32 7 4294967294 ≡ number 4294967293)
    × (idiv_s w32 2147483648 4294967295 ≡ overflows)
    × (idiv_s w32 2147483648 1 ≡ number 2147483648)
    × (idiv_s w32 5 0 ≡ divides_by_zero)
    × (idiv_s w64 18446744073709551609 2 ≡ number 18446744073709551613)
    × (idiv_s w64 7 18446744073709551614 ≡ number 18446744073709551613)
    × (idiv_s w64 9223372036854775808 18446744073709551615 ≡ overflows)
    × (idiv_s w64 9223372036854775808 1 ≡ number 9223372036854775808)
    × (idiv_s w64 5 0 ≡ divides_by_zero)
idiv_s_examples = (refl, refl, refl, refl, refl, refl, refl, refl, refl, refl)

idiv_u_examples :
    (idiv_u w32 4294967289 2 ≡ number 2147483644)
    × (idiv_u w32 5 0 ≡ divides_by_zero)
    × (idiv_u w32 2147483648 4294967295 ≡ number 0)
    × (idiv_u w64 18446744073709551609 2 ≡ number 9223372036854775804)
    × (idiv_u w64 5 0 ≡ divides_by_zero)
    × (idiv_u w64 9223372036854775808 18446744073709551615 ≡ number 0)
idiv_u_examples = (refl, refl, refl, refl, refl, refl)

irem_s_examples :
    (irem_s w32 4294967289 2 ≡ number 4294967295)
    × (irem_s w32 7 4294967294 ≡ number 1)
    × (irem_s w32 2147483648 4294967295 ≡ number 0)
    × (irem_s w32 5 0 ≡ divides_by_zero)
    × (irem_s w64 18446744073709551609 2 ≡ number 18446744073709551615)
    × (irem_s w64 7 18446744073709551614 ≡ number 1)
    × (irem_s w64 9223372036854775808 18446744073709551615 ≡ number 0)
    × (irem_s w64 5 0 ≡ divides_by_zero)
irem_s_examples = (refl, refl, refl, refl, refl, refl, refl, refl)

irem_u_examples :
    (irem_u w32 4294967289 2 ≡ number 1)
    × (irem_u w32 5 0 ≡ divides_by_zero)
    × (irem_u w64 18446744073709551609 2 ≡ number 1)
    × (irem_u w64 5 0 ≡ divides_by_zero)
irem_u_examples = (refl, refl, refl, refl)

iand_examples :
    (iand w32 4294967295 240 ≡ 240)
    × (iand w64 18446744073709551615 240 ≡ 240)
iand_examples = (refl, refl)

ior_examples :
    (ior w32 15 240 ≡ 255)
    × (ior w64 15 240 ≡ 255)
ior_examples = (refl, refl)

ixor_examples :
    (ixor w32 4294967295 1 ≡ 4294967294)
    × (ixor w64 18446744073709551615 1 ≡ 18446744073709551614)
ixor_examples = (refl, refl)

ishl_examples :
    (ishl w32 3 31 ≡ 2147483648)
    × (ishl w32 3 32 ≡ 3)
    × (ishl w64 3 63 ≡ 9223372036854775808)
    × (ishl w64 3 64 ≡ 3)
ishl_examples = (refl, refl, refl, refl)

ishr_u_examples :
    (ishr_u w32 4294967295 31 ≡ 1)
    × (ishr_u w32 6 33 ≡ 3)
    × (ishr_u w64 18446744073709551615 63 ≡ 1)
    × (ishr_u w64 6 65 ≡ 3)
ishr_u_examples = (refl, refl, refl, refl)

ishr_s_examples :
    (ishr_s w32 2147483648 31 ≡ 4294967295)
    × (ishr_s w32 4294967289 1 ≡ 4294967292)
    × (ishr_s w64 9223372036854775808 63 ≡ 18446744073709551615)
    × (ishr_s w64 18446744073709551609 1 ≡ 18446744073709551612)
ishr_s_examples = (refl, refl, refl, refl)

irotl_examples :
    (irotl w32 2147483649 1 ≡ 3)
    × (irotl w32 5 32 ≡ 5)
    × (irotl w64 9223372036854775809 1 ≡ 3)
    × (irotl w64 5 64 ≡ 5)
irotl_examples = (refl, refl, refl, refl)

irotr_examples :
    (irotr w32 3 1 ≡ 2147483649)
    × (irotr w32 5 0 ≡ 5)
    × (irotr w64 3 1 ≡ 9223372036854775809)
    × (irotr w64 5 0 ≡ 5)
irotr_examples = (refl, refl, refl, refl)

iclz_examples :
    (iclz w32 0 ≡ 32)
    × (iclz w32 1 ≡ 31)
    × (iclz w32 2147483648 ≡ 0)
    × (iclz w64 0 ≡ 64)
    × (iclz w64 1 ≡ 63)
    × (iclz w64 9223372036854775808 ≡ 0)
unfolding count_leading_zeros
iclz_examples = (refl, refl, refl, refl, refl, refl)

ictz_examples :
    (ictz w32 0 ≡ 32)
    × (ictz w32 2147483648 ≡ 31)
    × (ictz w32 12 ≡ 2)
    × (ictz w64 0 ≡ 64)
    × (ictz w64 9223372036854775808 ≡ 63)
    × (ictz w64 12 ≡ 2)
unfolding count_trailing_zeros
ictz_examples = (refl, refl, refl, refl, refl, refl)

ieqz_examples :
    (ieqz w32 0 ≡ true)
    × (ieqz w32 4294967295 ≡ false)
    × (ieqz w64 0 ≡ true)
    × (ieqz w64 18446744073709551615 ≡ false)
ieqz_examples = (refl, refl, refl, refl)

ieq_examples :
    (ieq w32 4 4 ≡ true)
    × (ieq w64 4 4 ≡ true)
ieq_examples = (refl, refl)

ine_examples :
    (ine w32 4 4 ≡ false)
    × (ine w64 4 4 ≡ false)
ine_examples = (refl, refl)

ilt_s_examples :
    (ilt_s w32 4294967295 0 ≡ true)
    × (ilt_s w64 18446744073709551615 0 ≡ true)
ilt_s_examples = (refl, refl)

ilt_u_examples :
    (ilt_u w32 4294967295 0 ≡ false)
    × (ilt_u w64 18446744073709551615 0 ≡ false)
ilt_u_examples = (refl, refl)

igt_s_examples :
    (igt_s w32 4294967295 0 ≡ false)
    × (igt_s w64 18446744073709551615 0 ≡ false)
igt_s_examples = (refl, refl)

igt_u_examples :
    (igt_u w32 4294967295 0 ≡ true)
    × (igt_u w64 18446744073709551615 0 ≡ true)
igt_u_examples = (refl, refl)

ile_s_examples :
    (ile_s w32 2147483648 2147483648 ≡ true)
    × (ile_s w64 9223372036854775808 9223372036854775808 ≡ true)
ile_s_examples = (refl, refl)

ile_u_examples :
    (ile_u w32 4294967295 0 ≡ false)
    × (ile_u w64 18446744073709551615 0 ≡ false)
ile_u_examples = (refl, refl)

ige_s_examples :
    (ige_s w32 2147483648 0 ≡ false)
    × (ige_s w64 9223372036854775808 0 ≡ false)
ige_s_examples = (refl, refl)

ige_u_examples :
    (ige_u w32 0 0 ≡ true)
    × (ige_u w64 0 0 ≡ true)
ige_u_examples = (refl, refl)

iextend_s_examples :
    (iextend_s w8 w32 128 ≡ 4294967168)
    × (iextend_s w8 w32 383 ≡ 127)
    × (iextend_s w16 w32 32768 ≡ 4294934528)
    × (iextend_s w8 w64 128 ≡ 18446744073709551488)
    × (iextend_s w8 w64 383 ≡ 127)
    × (iextend_s w16 w64 32768 ≡ 18446744073709518848)
    × (iextend_s w32 w64 6442450944 ≡ 18446744071562067968)
iextend_s_examples = (refl, refl, refl, refl, refl, refl, refl)

ipopcnt_examples :
    (ipopcnt w32 23 ≡ 4)
    × (ipopcnt w64 0 ≡ 0)
unfolding ones ones_in
ipopcnt_examples = (refl, refl)

wrap_examples :
    wrap w64 w32 4294967301 ≡ 5
wrap_examples = refl

extend_s_examples :
    extend_s w32 w64 4294967295 ≡ 18446744073709551615
extend_s_examples = refl

extend_u_examples :
    extend_u w32 w64 4294967295 ≡ 4294967295
extend_u_examples = refl
