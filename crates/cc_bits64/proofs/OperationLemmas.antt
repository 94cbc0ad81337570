-- All operations do what they answer.
use Rattle.std.proofs.Common.{◌≡◌, ℕ, suc, ◌<◌, length, true, refl, ap, ◌∙◌, bit_and, bit_or, bit_xor, arith}
use Rattle.std.specs.Int.{w32, w64}
use Rattle.std.proofs.lemmas.Nat.{and_block, or_block, xor_block, and_le_l, or_lt, xor_lt, leading_le, trailing_le}
use Rattle.wm_ast.specs.declared.operation.NumOp.{NumOp}
use Rattle.wm_ast.specs.declared.operation.NumOp.TheVariants.{I32And, I32Or, I32Xor, I32Clz, I32Ctz, I32Popcnt, I64And, I64Or, I64Xor, I64Shl, I64ShrS, I64ShrU, I64Rotl, I64Rotr, I64Clz, I64Ctz, I64Popcnt}
use Rattle.wm_ast.specs.Integer.{iand, ior, ixor, ishl, ishr_s, ishr_u, irotl, irotr, iclz, ictz, ipopcnt}
use Rattle.wm_ast.specs.Operator.{operator_of}
use Rattle.cc_line.specs.State.{State}
use Rattle.cc_line.specs.Routine.{PerformsFromStanding}
use Rattle.cc_bits.proofs.OperationLemmas.{unary_performs, binary_performs}
use Rattle.cc_bits64.specs.Halves.{halves_items, popcnt_items, zeros_items}
use Rattle.cc_bits64.specs.Shifting.{shl_items, shr_s_items, shr_u_items, rotl_items, rotr_items}
use Rattle.cc_bits64.specs.Operation.{is_own, op_items}
use Rattle.cc_bits64.proofs.Pairs.{pair}
use Rattle.cc_bits64.proofs.Counts.{pair_clz_high, pair_clz_low, pair_ctz_low, pair_ctz_high}
use Rattle.cc_bits64.proofs.Operands.{StandsAt, Makes, one_from, two_from}
use Rattle.cc_bits64.proofs.HalvesLemmas.{IsByHalves, KeepsWords, halves_make, popcnt_make, zeros_make}
use Rattle.cc_bits64.proofs.ShiftOperations.{shl_make, shr_u_make, shr_s_make, rotl_make, rotr_make}

and_halves : IsByHalves bit_and
and_halves h n l m p q = and_block 32 h n l m p q

or_halves : IsByHalves bit_or
or_halves h n l m p q = or_block 32 h n l m p q

xor_halves : IsByHalves bit_xor
xor_halves h n l m p q = xor_block 32 h n l m p q

and_words : KeepsWords bit_and
and_words x y p q = omega (arith, and_le_l x y)

or_words : KeepsWords bit_or
or_words x y p q = or_lt 32 x y p q

xor_words : KeepsWords bit_xor
xor_words x y p q = xor_lt 32 x y p q

clz_make : (a : ℕ) (s : State) (h l : ℕ) → StandsAt s a h l → Makes (zeros_items I32Clz a (suc a) a) s a (iclz w64 (pair h l))
clz_make a s h l one =
    let room = one.room in
    let first : a < length s.places = omega arith in
    zeros_make I32Clz (iclz w32) (unary_performs I32Clz refl) (λ x. refl) (leading_le 32) a (suc a) a s h l (iclz w64 (pair h l)) one.high one.low one.room first one.room one.high_at one.low_at
    (λ e. ap (λ n. iclz w64 (pair n l)) e ∙ pair_clz_low l one.low) (λ p. pair_clz_high h l p one.high one.low)

ctz_make : (a : ℕ) (s : State) (h l : ℕ) → StandsAt s a h l → Makes (zeros_items I32Ctz a a (suc a)) s a (ictz w64 (pair h l))
ctz_make a s h l one =
    let room = one.room in
    let first : a < length s.places = omega arith in
    zeros_make I32Ctz (ictz w32) (unary_performs I32Ctz refl) (λ x. refl) (trailing_le 32) a a (suc a) s l h (ictz w64 (pair h l)) one.low one.high first one.room one.room one.low_at one.high_at
    (λ e. ap (λ n. ictz w64 (pair h n)) e ∙ pair_ctz_high h) (λ p. pair_ctz_low h l p one.low)

pub all_perform : (op : NumOp) → is_own (operator_of op) ≡ true → (a : ℕ) → PerformsFromStanding op (op_items op a) a
all_perform I64And k a = two_from (halves_items I32And a) a (iand w64) (halves_make I32And bit_and (binary_performs I32And refl) (λ x y. refl) and_halves and_words a)
all_perform I64Or k a = two_from (halves_items I32Or a) a (ior w64) (halves_make I32Or bit_or (binary_performs I32Or refl) (λ x y. refl) or_halves or_words a)
all_perform I64Xor k a = two_from (halves_items I32Xor a) a (ixor w64) (halves_make I32Xor bit_xor (binary_performs I32Xor refl) (λ x y. refl) xor_halves xor_words a)
all_perform I64Clz k a = one_from (zeros_items I32Clz a (suc a) a) a (iclz w64) (clz_make a)
all_perform I64Ctz k a = one_from (zeros_items I32Ctz a a (suc a)) a (ictz w64) (ctz_make a)
all_perform I64Popcnt k a = one_from (popcnt_items a) a (ipopcnt w64) (popcnt_make (unary_performs I32Popcnt refl) a)
all_perform I64Shl k a = two_from (shl_items a) a (ishl w64) (shl_make a)
all_perform I64ShrS k a = two_from (shr_s_items a) a (ishr_s w64) (shr_s_make a)
all_perform I64ShrU k a = two_from (shr_u_items a) a (ishr_u w64) (shr_u_make a)
all_perform I64Rotl k a = two_from (rotl_items a) a (irotl w64) (rotl_make a)
all_perform I64Rotr k a = two_from (rotr_items a) a (irotr w64) (rotr_make a)
all_perform _ k a = absurd cc
