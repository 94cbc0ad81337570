-- The items of operations are short, with their tables.
use Rattle.std.proofs.Common.{◌≡◌, ℕ, suc, true, refl}
use Rattle.wm_ast.specs.declared.operation.NumOp.{NumOp}
use Rattle.wm_ast.specs.declared.operation.NumOp.TheVariants.{I32Clz, I32Ctz, I32Popcnt, I32And, I32Or, I32Xor}
use Rattle.wm_ast.specs.declared.operation.NumOp.TheVariants.{I64And, I64Or, I64Xor, I64Shl, I64ShrS, I64ShrU}
use Rattle.wm_ast.specs.declared.operation.NumOp.TheVariants.{I64Rotl, I64Rotr, I64Clz, I64Ctz, I64Popcnt}
use Rattle.cc_line.specs.Item.{Items, join}
use Rattle.cc_text.specs.Short.{items_short}
use Rattle.cc_text.proofs.ShortItems.{short_join}
use Rattle.cc_text.proofs.ShortTrees.{no_fields_short}
use Rattle.cc_bits.specs.Operation as bits
use Rattle.cc_bits.proofs.Short as short
use Rattle.cc_bits64.specs.Halves.{choose_items, sum_items, sum_steps, whole_half}
use Rattle.cc_bits64.specs.Operation.{op_items}

halves_short : (op : NumOp) (a : ℕ) → items_short (join (bits.op_items op a (suc (suc a)) a) (bits.op_items op (suc a) (suc (suc (suc a))) (suc a))) ≡ true
halves_short op a =
    short_join (bits.op_items op a (suc (suc a)) a) (bits.op_items op (suc a) (suc (suc (suc a))) (suc a)) (short.operation_short op a (suc (suc a)) a)
    (short.operation_short op (suc a) (suc (suc (suc a))) (suc a))

zeros_short : (op : NumOp) (a p q : ℕ) → items_short (join (choose_items a p q) (join (bits.op_items op a a a) (sum_items a whole_half))) ≡ true
zeros_short op a p q =
    short_join (choose_items a p q) (join (bits.op_items op a a a) (sum_items a whole_half)) refl
    (short_join (bits.op_items op a a a) (sum_items a whole_half) (short.operation_short op a a a) refl)

ones_short : (a : ℕ) → items_short (join (bits.op_items I32Popcnt a a a) (join (bits.op_items I32Popcnt (suc a) (suc a) (suc a)) (sum_items a sum_steps))) ≡ true
ones_short a =
    let high : Items = bits.op_items I32Popcnt (suc a) (suc a) (suc a) in
    short_join (bits.op_items I32Popcnt a a a) (join high (sum_items a sum_steps)) (short.operation_short I32Popcnt a a a)
    (short_join high (sum_items a sum_steps) (short.operation_short I32Popcnt (suc a) (suc a) (suc a)) refl)

pub operation_short : (op : NumOp) (a : ℕ) → items_short (op_items op a) ≡ true
operation_short I64And a = halves_short I32And a
operation_short I64Or a = halves_short I32Or a
operation_short I64Xor a = halves_short I32Xor a
operation_short I64Clz a = zeros_short I32Clz a (suc a) a
operation_short I64Ctz a = zeros_short I32Ctz a a (suc a)
operation_short I64Popcnt a = ones_short a
operation_short I64Shl a = rw no_fields_short refl
operation_short I64ShrS a = rw no_fields_short refl
operation_short I64ShrU a = rw no_fields_short refl
operation_short I64Rotl a = rw no_fields_short refl
operation_short I64Rotr a = rw no_fields_short refl
operation_short _ a = refl
