-- Types, imports and exports, read from the left.
use Rattle.std.specs.Prelude.{[], ◌∷◌, Bool, true, false, Some, None, ◌==◌, if◌then◌else◌}
use Rattle.wm_ast.specs.declared.module.ValType.{ValType}
use Rattle.wm_ast.specs.declared.module.FuncType.{FuncType}
use Rattle.wm_ast.specs.declared.module.Limits.{Limits}
use Rattle.wm_ast.specs.declared.module.Space.{Space}
use Rattle.wm_ast.specs.declared.module.Space.TheVariants as spaces
use Rattle.wm_ast.specs.declared.module.Export.{Export}
use Rattle.wm_ast.specs.declared.module.Imported.{Imported}
use Rattle.wm_ast.specs.declared.module.Imported.TheVariants as imported
use Rattle.wm_ast.specs.declared.module.Import.{Import}
use Rattle.wm_frame.specs.Reading.{Reader, ◌>>=◌, unsigned_at}
use Rattle.wm_decode.specs.steps.Listing.{list_at, name_at, byte_at, three_at}
use Rattle.wm_decode.specs.steps.ValueType.{val_type_at}
use Rattle.wm_decode.specs.declared.types.Table.{Table}

unfoldable pub func_type_at : Reader FuncType
func_type_at bytes = do
  rest ← byte_at 0x60 bytes
  params ← list_at val_type_at rest
  results ← list_at val_type_at params.1
  Some (record { params = params.0; results = results.0 }, results.1)

-- the least size and the greatest
abbrev pub sizes_at : Reader Limits
sizes_at bs = do
  least ← unsigned_at 32 bs
  most ← unsigned_at 32 least.1
  Some (record { min = least.0; max = Some most.0 }, most.1)

unfoldable pub limits_at : Reader Limits
limits_at [] = None
limits_at (b ∷ bs) =
    if b == 0x00 then (unsigned_at 32 bs >>= λ least. Some (record { min = least.0; max = None }, least.1))
    else (if b == 0x01 then sizes_at bs else None)

unfoldable pub table_at : Reader Table
table_at bytes = do
  rest ← byte_at 0x70 bytes
  limits ← limits_at rest
  Some (record { limits = limits.0 }, limits.1)

-- whether a global may change
unfoldable pub mutable_at : Reader Bool
mutable_at [] = None
mutable_at (b ∷ bs) = if b == 0x00 then Some (false, bs) else (if b == 0x01 then Some (true, bs) else None)

unfoldable pub global_type_at : Reader (ValType × Bool)
global_type_at bytes = val_type_at bytes >>= λ t. mutable_at t.1 >>= λ m. Some ((t.0, m.0), m.1)

unfoldable pub imported_at : Reader Imported
imported_at [] = None
imported_at (b ∷ bs) =
    if b == 0x00 then (unsigned_at 32 bs >>= λ index. Some (imported.Func index.0, index.1))
    else (if b == 0x01 then (table_at bs >>= λ table. Some (imported.Table table.0.limits, table.1))
    else (if b == 0x02 then (limits_at bs >>= λ limits. Some (imported.Memory limits.0, limits.1))
    else (if b == 0x03 then (global_type_at bs >>= λ g. Some (imported.Global g.0.0 g.0.1, g.1))
    else None)))

unfoldable pub import_at : Reader Import
import_at bytes =
    three_at name_at name_at imported_at
    (λ module' name what. record { «module» = module'; name = name; what = what }) bytes

unfoldable pub space_at : Reader Space
space_at [] = None
space_at (b ∷ bs) =
    if b == 0x00 then Some (spaces.Func, bs)
    else (if b == 0x01 then Some (spaces.Table, bs)
    else (if b == 0x02 then Some (spaces.Memory, bs)
    else (if b == 0x03 then Some (spaces.Global, bs) else None)))

unfoldable pub export_at : Reader Export
export_at bytes = do
  name ← name_at bytes
  space ← space_at name.1
  index ← unsigned_at 32 space.1
  Some (record { name = name.0; space = space.0; index = index.0 }, index.1)
