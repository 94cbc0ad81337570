-- The functions of the pack of a module, in the order in which they are added, and its index.
use Rattle.std.specs.Prelude.{ℕ, List, [], ◌∷◌, ◌++◌, map, Option, Some, None, slice_get}
use Rattle.mc_nbt.specs.declared.value.Kind.{Kind}
use Rattle.mc_nbt.specs.declared.value.Kind.TheVariants as kinds
use Rattle.mc_cmd.specs.Form.{Text}
use Rattle.mc_cmd.specs.Chain.{Texts}
use Rattle.mc_cmd.specs.Pack.{Index, ExportType}
use Rattle.wm_ast.specs.declared.module.Export.{Export}
use Rattle.wm_ast.specs.declared.module.FuncType.{FuncType}
use Rattle.wm_ast.specs.declared.module.Module.{Module}
use Rattle.wm_ast.specs.declared.module.ValType.{ValType}
use Rattle.wm_ast.specs.declared.module.ValType.TheVariants as types
use Rattle.wm_ast.specs.Instance.{exported_functions}
use Rattle.wm_ast.specs.Types.{function_type}
use Rattle.wm_valid.specs.Arrows.{◌>>=◌}
use Rattle.cc_line.specs.Helpers.{each_once}
use Rattle.cc_line.specs.Item.{Helper, items_texts}
use Rattle.cc_sched.specs.Functions.{sched_functions}
use Rattle.cc_sched.specs.Names.{piece_name}
use Rattle.cc_pieces.specs.Parts.{Part}
use Rattle.cc_body.specs.Parts.{parts_helpers}
use Rattle.pk_agree.specs.Agree.{function_exports}
use Rattle.pk_agree.specs.Heaviest.{heaviest, pack_parts}

-- ---- functions

-- the function of a piece under a namespace
abbrev pub piece_function : Text → Part → Helper
piece_function ns p = record { name = piece_name p.id; lines = items_texts ns p.items }

-- The functions of the pack of a module under a namespace: those of the scheduler, which runs pieces up to the heaviest,
-- one for each piece, and the helpers that pieces call, each name once.
abbrev pub pack_functions : Module → Text → List Helper
pack_functions m ns =
    sched_functions ns (heaviest m) (exported_functions m)
    ++ (map (piece_function ns) (pack_parts m) ++ each_once (parts_helpers ns (pack_parts m)))

-- a function as a pack keeps it
abbrev pub entry : Helper → Text × Texts
entry h = (h.name, h.lines)

-- ---- the index

-- the kind of the ints of a type; floats have none, and no module of the profile has floats
abbrev pub int_kind : ValType → Kind
int_kind types.I64 = kinds.I64
int_kind _ = kinds.I32

-- of the results of a type the first one, if there is one
abbrev pub first_kind : List ValType → Option Kind
first_kind [] = None
first_kind (t ∷ ts) = Some (int_kind t)

-- the type of the function of this index, if there is one
abbrev pub type_of : Module → ℕ → Option FuncType
type_of m n = slice_get m.funcs n >>= function_type m

-- an export of a type
abbrev pub export_entry : Text → Option FuncType → ExportType
export_entry name None = record { name = name; params = []; result = None }
export_entry name (Some t) = record { name = name; params = map int_kind t.params; result = first_kind t.results }

-- the entry of an export of a function
abbrev pub export_of : Module → Export → ExportType
export_of m e = export_entry e.name (type_of m e.index)

-- the index of the pack of a module: the exports of functions, in their order
abbrev pub pack_index : Module → Text → Index
pack_index m ns = record { ns = ns; exports = map (export_of m) (function_exports m) }
