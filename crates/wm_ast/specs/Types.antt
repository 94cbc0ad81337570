-- The types that the parts of a module tell: of results, constants, locals and functions.
use Rattle.std.specs.Prelude.{Bool, true, false, ◌&&◌, List, [], ◌∷◌, ◌++◌, replicate, Option, Some, None, slice_get}
use Rattle.mc_nbt.specs.declared.value.Value.{Value}
use Rattle.mc_nbt.specs.declared.value.Value.TheVariants as values
use Rattle.wm_ast.specs.declared.module.ValType.{ValType}
use Rattle.wm_ast.specs.declared.module.ValType.TheVariants.{I32, I64, F32, F64}
use Rattle.wm_ast.specs.declared.module.FuncType.{FuncType}
use Rattle.wm_ast.specs.declared.module.Func.{Func}
use Rattle.wm_ast.specs.declared.module.Module.{Module}
use Rattle.wm_ast.specs.declared.module.Run.{Run}

-- what a block gives (2.3.2)
abbrev pub results_of : Option ValType → List ValType
results_of None = []
results_of (Some t) = t ∷ []

-- the type of a constant (3.3.1)
abbrev pub const_type : Value → ValType
const_type (values.I32 n) = I32
const_type (values.I64 n) = I64

-- locals, run after run (5.5.13)
abbrev pub run_types : List Run → List ValType
run_types [] = []
run_types (r ∷ rs) = replicate r.count r.ty ++ run_types rs

-- the type of a function of the module, where its index names one (2.5.3)
abbrev pub function_type : Module → Func → Option FuncType
function_type m f = slice_get m.types f.kind

-- two types are one
abbrev pub same_type : ValType → ValType → Bool
same_type I32 I32 = true
same_type I64 I64 = true
same_type F32 F32 = true
same_type F64 F64 = true
same_type _ _ = false

-- two lists of types are one
abbrev pub same_types : List ValType → List ValType → Bool
same_types [] [] = true
same_types (t ∷ ts) (u ∷ us) = same_type t u && same_types ts us
same_types _ _ = false
