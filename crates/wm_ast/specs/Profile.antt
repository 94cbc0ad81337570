-- The profile: which modules this compiler takes. It is the compiler's own, and no part of the WebAssembly Core
-- Specification.
use Rattle.std.specs.Prelude.{◌≡◌, ℕ, ◌+◌, ◌*◌, ◌≤◌, List, [], ◌∷◌, ◌++◌, length, map, sum, filter_map}
use Rattle.std.specs.Prelude.{Option, Some, None, option_map, Bool, true, false, nat_lt, ◌||◌, slice_get, All}
use Rattle.std.specs.List.{list_any, concat}
use Rattle.std.specs.Int.{cast_unsigned, w32}
use Rattle.mc_nbt.specs.declared.value.Value.TheVariants as values
use Rattle.wm_ast.specs.declared.limit.TheConstants.{MAX_TYPES, MAX_FUNCTIONS, MAX_LOCALS, MAX_ALL_LOCALS}
use Rattle.wm_ast.specs.declared.limit.TheConstants.{MAX_INSTRUCTIONS, MAX_LABELS, MAX_GLOBALS, MAX_TABLE, PAGES}
use Rattle.wm_ast.specs.declared.limit.TheConstants.{MAX_EXPORTS, MAX_EXPORT_SIZE}
use Rattle.wm_ast.specs.declared.module.ValType.{ValType}
use Rattle.wm_ast.specs.declared.module.ValType.TheVariants.{I32, I64, F32, F64}
use Rattle.wm_ast.specs.declared.module.FuncType.{FuncType}
use Rattle.wm_ast.specs.declared.module.Run.{Run}
use Rattle.wm_ast.specs.declared.module.Func.{Func}
use Rattle.wm_ast.specs.declared.module.Limits.{Limits}
use Rattle.wm_ast.specs.declared.module.Global.{Global}
use Rattle.wm_ast.specs.declared.module.Space.{Space}
use Rattle.wm_ast.specs.declared.module.Space.TheVariants as spaces
use Rattle.wm_ast.specs.declared.module.Export.{Export}
use Rattle.wm_ast.specs.declared.module.Imported.{Imported}
use Rattle.wm_ast.specs.declared.module.Imported.TheVariants as imported
use Rattle.wm_ast.specs.declared.module.Import.{Import}
use Rattle.wm_ast.specs.declared.module.Elem.{Elem}
use Rattle.wm_ast.specs.declared.module.Data.{Data}
use Rattle.wm_ast.specs.declared.module.Module.{Module}
use Rattle.wm_ast.specs.Code.{Op, block, loop, if_else, br_table, const, float, mul64, Code, nil, cons}
use Rattle.wm_ast.specs.Part.{locals_count}
use Rattle.wm_ast.specs.View.{code_of}

abbrev mutual
  -- an instruction, and then those inside it, in the order in which they are written
  pub op_and_inside : Op → List Op
  op_and_inside (block ty body) = block ty body ∷ all_ops body
  op_and_inside (loop ty body) = loop ty body ∷ all_ops body
  op_and_inside (if_else ty first second) = if_else ty first second ∷ (all_ops first ++ all_ops second)
  op_and_inside i = i ∷ []

  -- all instructions of a sequence, at any depth, in the order in which they are written
  pub all_ops : Code → List Op
  all_ops nil = []
  all_ops (cons i is) = op_and_inside i ++ all_ops is

-- the expressions of items
abbrev pub global_code : Global → Code
global_code g = code_of g.init

abbrev pub element_code : Elem → Code
element_code e = code_of e.offset

abbrev pub data_code : Data → Code
data_code d = code_of d.offset

abbrev pub function_code : Func → Code
function_code f = code_of f.body

-- no item of the list passes the test
abbrev pub NoItem : {A : Type 0} → (A → Bool) → List A → Type 0
NoItem test items = list_any test items ≡ false

-- Floats.

abbrev pub is_float : ValType → Bool
is_float I32 = false
is_float I64 = false
is_float F32 = true
is_float F64 = true

abbrev pub is_float_result : Option ValType → Bool
is_float_result None = false
is_float_result (Some t) = is_float t

-- an instruction on floats, or a block with a float for its result
abbrev pub is_float_op : Op → Bool
is_float_op (block ty body) = is_float_result ty
is_float_op (loop ty body) = is_float_result ty
is_float_op (if_else ty first second) = is_float_result ty
is_float_op (float opcode) = true
is_float_op _ = false

abbrev pub is_float_imported : Imported → Bool
is_float_imported (imported.Global ty is_mutable) = is_float ty
is_float_imported _ = false

-- a run of no locals has its type all the same
abbrev pub is_float_run : Run → Bool
is_float_run r = is_float r.ty

abbrev pub has_float_code : Code → Bool
has_float_code c = list_any is_float_op (all_ops c)

abbrev pub has_float_type : FuncType → Bool
has_float_type t = list_any is_float t.params || list_any is_float t.results

abbrev pub has_float_import : Import → Bool
has_float_import i = is_float_imported i.what

abbrev pub has_float_global : Global → Bool
has_float_global g = is_float g.ty || has_float_code (global_code g)

abbrev pub has_float_element : Elem → Bool
has_float_element e = has_float_code (element_code e)

abbrev pub has_float_data : Data → Bool
has_float_data d = has_float_code (data_code d)

abbrev pub has_float_function : Func → Bool
has_float_function f = list_any is_float_run f.locals || has_float_code (function_code f)

-- No item has a float type or a float instruction.
pub record HasNoFloat (m : Module) : Type 0 where
  pub types : NoItem has_float_type m.types
  pub imports : NoItem has_float_import m.imports
  pub globals : NoItem has_float_global m.globals
  pub elements : NoItem has_float_element m.elems
  pub datas : NoItem has_float_data m.datas
  pub functions : NoItem has_float_function m.funcs

-- The product of two `i64`.

abbrev pub is_mul64 : Op → Bool
is_mul64 mul64 = true
is_mul64 _ = false

abbrev pub has_mul64_code : Code → Bool
has_mul64_code c = list_any is_mul64 (all_ops c)

abbrev pub has_mul64_global : Global → Bool
has_mul64_global g = has_mul64_code (global_code g)

abbrev pub has_mul64_element : Elem → Bool
has_mul64_element e = has_mul64_code (element_code e)

abbrev pub has_mul64_data : Data → Bool
has_mul64_data d = has_mul64_code (data_code d)

abbrev pub has_mul64_function : Func → Bool
has_mul64_function f = has_mul64_code (function_code f)

-- No item has an `i64.mul`. Types and imports have no instructions.
pub record HasNoMul64 (m : Module) : Type 0 where
  pub globals : NoItem has_mul64_global m.globals
  pub elements : NoItem has_mul64_element m.elems
  pub datas : NoItem has_mul64_data m.datas
  pub functions : NoItem has_mul64_function m.funcs

-- Limits.

-- how many parameters a type has; an index that names no type counts none
abbrev pub params_count : Option FuncType → ℕ
params_count None = 0
params_count (Some t) = length t.params

-- how many parameters a function has
abbrev pub function_params : Module → Func → ℕ
function_params m f = params_count (slice_get m.types f.kind)

-- how many parameters and locals a function has
abbrev pub function_locals : Module → Func → ℕ
function_locals m f = function_params m f + locals_count f.locals

-- how many instructions a function has
abbrev pub function_size : Func → ℕ
function_size f = length (all_ops (function_code f))

-- how many labels a `br_table` has, without the default
abbrev pub table_labels : Op → Option ℕ
table_labels (br_table labels last) = Some (length labels)
table_labels _ = None

-- how many labels the `br_table`s of a sequence have, one by one
abbrev pub code_labels : Code → List ℕ
code_labels c = filter_map table_labels (all_ops c)

-- the expressions of a module, in the order globals, elements, datas, functions
abbrev pub expressions : Module → List Code
expressions m =
    map global_code m.globals
    ++ (map element_code m.elems ++ (map data_code m.datas ++ map function_code m.funcs))

-- how many parameters the exported function has; an index that names none counts none
abbrev pub exported_params : Module → Option Func → ℕ
exported_params m None = 0
exported_params m (Some f) = function_params m f

-- the bytes of the name of an exported function and its parameters; exports of other kinds count nothing
abbrev pub export_size_in : Module → Space → Export → ℕ
export_size_in m spaces.Func e = length e.name + exported_params m (slice_get m.funcs e.index)
export_size_in m _ e = 0

abbrev pub export_size : Module → Export → ℕ
export_size m e = export_size_in m e.space e

-- the least size of a table, in entries
abbrev pub entries : Limits → ℕ
entries l = l.min

-- the least size of a memory, in pages
abbrev pub pages : Limits → ℕ
pages l = l.min

-- The module is within the limits.
pub record WithinLimits (m : Module) : Type 0 where
  pub types : length m.types ≤ MAX_TYPES
  pub functions : length m.funcs ≤ MAX_FUNCTIONS
  pub locals : All (λ count. count ≤ MAX_LOCALS) (map (function_locals m) m.funcs)
  pub all_locals : sum (map (function_locals m) m.funcs) ≤ MAX_ALL_LOCALS
  pub instructions : sum (map function_size m.funcs) ≤ MAX_INSTRUCTIONS
  pub labels : All (λ count. count ≤ MAX_LABELS) (concat (map code_labels (expressions m)))
  pub globals : length m.globals ≤ MAX_GLOBALS
  pub tables : All (λ count. count ≤ MAX_TABLE) (map entries m.tables)
  pub memories : All (λ count. count ≤ PAGES) (map pages m.mems)
  pub exports : length m.exports ≤ MAX_EXPORTS
  pub export_sizes : sum (map (export_size m) m.exports) ≤ MAX_EXPORT_SIZE

-- A limit: what is counted, one by one in the module's order, and the most that each of these may be.
pub record Limit : Type 0 where
  pub counts : List ℕ
  pub most : ℕ

-- the same limits in their order, numbered from 1 on: a module is within them where each is kept
abbrev pub limits : Module → List Limit
limits m =
    record { counts = length m.types ∷ []; most = MAX_TYPES }
    ∷ record { counts = length m.funcs ∷ []; most = MAX_FUNCTIONS }
    ∷ record { counts = map (function_locals m) m.funcs; most = MAX_LOCALS }
    ∷ record { counts = sum (map (function_locals m) m.funcs) ∷ []; most = MAX_ALL_LOCALS }
    ∷ record { counts = sum (map function_size m.funcs) ∷ []; most = MAX_INSTRUCTIONS }
    ∷ record { counts = concat (map code_labels (expressions m)); most = MAX_LABELS }
    ∷ record { counts = length m.globals ∷ []; most = MAX_GLOBALS }
    ∷ record { counts = map entries m.tables; most = MAX_TABLE }
    ∷ record { counts = map pages m.mems; most = PAGES }
    ∷ record { counts = length m.exports ∷ []; most = MAX_EXPORTS }
    ∷ record { counts = sum (map (export_size m) m.exports) ∷ []; most = MAX_EXPORT_SIZE }
    ∷ []

-- each count is at most that
abbrev pub IsKept : Limit → Type 0
IsKept l = All (λ count. count ≤ l.most) l.counts

-- Segments.

-- the offset, as an unsigned number, where it is exactly one `i32.const`
abbrev pub constant_offset : Code → Option ℕ
constant_offset (cons (const (values.I32 n)) nil) = Some (cast_unsigned w32 n)
constant_offset _ = None

-- A segment of this length reaches beyond the size at which a table or memory begins. One without a constant offset, or
-- without a table or memory, doesn't.
abbrev pub is_beyond : Option ℕ → ℕ → Option ℕ → Bool
is_beyond (Some offset) count (Some size) = nat_lt size (offset + count)
is_beyond _ count _ = false

-- the least size of a memory, in bytes: a page has 65,536
abbrev pub bytes_of : Limits → ℕ
bytes_of l = 65536 * pages l

abbrev pub is_element_beyond : Module → Elem → Bool
is_element_beyond m e =
    is_beyond (constant_offset (element_code e)) (length e.funcs) (option_map entries (slice_get m.tables e.table))

abbrev pub is_data_beyond : Module → Data → Bool
is_data_beyond m d =
    is_beyond (constant_offset (data_code d)) (length d.bytes) (option_map bytes_of (slice_get m.mems d.memory))

-- The module is in the profile: it has no imports, no floats and no `i64.mul`, each limit is kept, and no segment
-- reaches
-- beyond the declared least size of its table or memory.
pub record InProfile (m : Module) : Type 0 where
  pub no_imports : m.imports ≡ []
  pub no_floats : HasNoFloat m
  pub no_mul64 : HasNoMul64 m
  pub within_limits : WithinLimits m
  pub no_element_beyond : NoItem (is_element_beyond m) m.elems
  pub no_data_beyond : NoItem (is_data_beyond m) m.datas
