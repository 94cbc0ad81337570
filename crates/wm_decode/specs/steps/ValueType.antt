-- Value types, read from the left.
use Rattle.std.specs.Prelude.{ℕ, [], ◌∷◌, Option, Some, None, ◌==◌, if◌then◌else◌}
use Rattle.wm_ast.specs.declared.module.ValType.{ValType}
use Rattle.wm_ast.specs.declared.module.ValType.TheVariants.{I32, I64, F32, F64}
use Rattle.wm_frame.specs.Reading.{Reader, ◌>>=◌}

-- the value type of a byte
abbrev pub val_type : ℕ → Option ValType
val_type b =
    if b == 0x7F then Some I32
    else (if b == 0x7E then Some I64
    else (if b == 0x7D then Some F32
    else (if b == 0x7C then Some F64 else None)))

unfoldable pub val_type_at : Reader ValType
val_type_at [] = None
val_type_at (b ∷ bs) = val_type b >>= λ t. Some (t, bs)
