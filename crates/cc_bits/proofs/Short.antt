-- The items of operations are short, with their tables.
use Rattle.std.proofs.Common.{◌≡◌, ℕ, true, refl}
use Rattle.std.specs.Prelude.{pos}
use Rattle.wm_ast.specs.declared.operation.NumOp.{NumOp}
use Rattle.wm_ast.specs.declared.operation.NumOp.TheVariants.{I32Clz, I32Ctz, I32Popcnt, I32Extend8S, I32Extend16S}
use Rattle.wm_ast.specs.declared.operation.NumOp.TheVariants.{I32And, I32Or, I32Xor, I32Shl, I32ShrS, I32ShrU}
use Rattle.wm_ast.specs.declared.operation.NumOp.TheVariants.{I32Rotl, I32Rotr}
use Rattle.cc_line.specs.Core.{core_on_one}
use Rattle.cc_text.specs.Short.{items_short}
use Rattle.cc_line.specs.declared.table.Table.TheVariants as tables
use Rattle.cc_text.proofs.ShortSpots.{one_short}
use Rattle.cc_text.proofs.ShortTrees.{no_fields_short, table_bare}
use Rattle.cc_bits.specs.Counting.{extend_steps, clz_steps, ctz_steps}
use Rattle.cc_bits.specs.Operation.{op_items}

pub operation_short : (op : NumOp) (a b r : ℕ) → items_short (op_items op a b r) ≡ true
operation_short I32Clz a b r = one_short (core_on_one clz_steps) a r (λ x. refl)
operation_short I32Ctz a b r = one_short (core_on_one ctz_steps) a r (λ x. refl)
operation_short I32Popcnt a b r = rw (no_fields_short, table_bare tables.Ones) refl
operation_short I32Extend8S a b r = one_short (core_on_one (extend_steps (pos 256) (pos 128))) a r (λ x. refl)
operation_short I32Extend16S a b r = one_short (core_on_one (extend_steps (pos 65536) (pos 32768))) a r (λ x. refl)
operation_short I32And a b r = rw no_fields_short refl
operation_short I32Or a b r = rw no_fields_short refl
operation_short I32Xor a b r = rw no_fields_short refl
operation_short I32Shl a b r = rw no_fields_short refl
operation_short I32ShrS a b r = rw no_fields_short refl
operation_short I32ShrU a b r = rw no_fields_short refl
operation_short I32Rotl a b r = rw no_fields_short refl
operation_short I32Rotr a b r = rw no_fields_short refl
operation_short op a b r = refl
