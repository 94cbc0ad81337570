-- The typing of the machine's configurations: the operands of each sequence have the types that what is left of it
-- takes. In all lists of types the last operand stands first.
use Rattle.std.specs.Prelude.{◌≡◌, ℕ, ◌≤◌, ◌*◌, List, [], ◌∷◌, ◌++◌, length, map, reverse, All, Option, Some, None}
use Rattle.std.specs.Prelude.{slice_get}
use Rattle.mc_nbt.specs.declared.value.Value.{Value}
use Rattle.wm_ast.specs.declared.module.ValType.{ValType}
use Rattle.wm_ast.specs.declared.module.ValType.TheVariants.{I32}
use Rattle.wm_ast.specs.declared.module.FuncType.{FuncType}
use Rattle.wm_ast.specs.declared.module.Func.{Func}
use Rattle.wm_ast.specs.declared.module.Global.{Global}
use Rattle.wm_ast.specs.declared.module.Limits.{Limits}
use Rattle.wm_ast.specs.declared.module.Module.{Module}
use Rattle.wm_ast.specs.Code.{Op, block, loop, if_else, Code}
use Rattle.wm_ast.specs.Profile.{entries, pages}
use Rattle.wm_ast.specs.Store.{Store, Callee, callee_of, page_size, most_pages}
use Rattle.wm_ast.specs.Types.{results_of, const_type, run_types, function_type}
use Rattle.wm_valid.specs.Place.{HasNoJump}
use Rattle.wm_valid.specs.Typing.{Context, Rule, TypesCode, body_context}
use Rattle.wm_flat.specs.Flat.{Level, Activation, Flat, starting, running, finished, Moved, goes, fails, over, none}
use Rattle.wm_valid.specs.InRange.{IsInRange, IsByte, OpInRange, CodeInRange}
use Rattle.wm_flat.specs.Runs.{State}

-- Values.

-- the types of values
abbrev pub types_of : List Value → List ValType
types_of vs = map const_type vs

-- values of these types, each in the signed range of its kind
pub record Are (ts : List ValType) (vs : List Value) : Type 0 where
  pub types : types_of vs ≡ ts
  pub range : All IsInRange vs

-- The store.

-- the type of what a global holds
abbrev pub held_type : Global → ValType
held_type g = g.ty

-- the least size of a memory, in pages, and of a table
abbrev pub least_pages : Option Limits → ℕ
least_pages None = 0
least_pages (Some l) = pages l

abbrev pub least_entries : Option Limits → ℕ
least_entries None = 0
least_entries (Some l) = entries l

-- a memory of whole pages, as many as its limits and the profile allow, with a byte at each place
pub record TypedMemory (m : Module) (memory : List ℕ) : Type 0 where
  pub count : ℕ
  pub size : length memory ≡ page_size * count
  pub at_least : least_pages (slice_get m.mems 0) ≤ count
  pub at_most : count ≤ most_pages m
  pub bytes : All IsByte memory

-- an element is empty, or the index of a function that is there with its type
abbrev pub IsElement : Module → Option ℕ → Type 0
IsElement m None = Unit {0}
IsElement m (Some f) = (c : Callee) × (callee_of m f ≡ Some c)

-- a table of its least size, which doesn't grow
pub record TypedTable (m : Module) (table : List (Option ℕ)) : Type 0 where
  pub size : length table ≡ least_entries (slice_get m.tables 0)
  pub elements : All (IsElement m) table

pub record TypedStore (m : Module) (s : Store) : Type 0 where
  pub globals : Are (map held_type m.globals) s.globals
  pub memory : TypedMemory m s.memory
  pub table : TypedTable m s.table

-- Blocks.

-- the context inside these labels, the innermost first, of a body with this context
abbrev pub with_labels : List (List ValType) → Context → Context
with_labels ls B = record B { labels = ls }

-- what a block takes, what a branch to it takes along, and what it gives
abbrev pub enters : Op → List ValType
enters (if_else ty first second) = I32 ∷ []
enters _ = []

abbrev pub branch_types : Op → List ValType
branch_types (block ty body) = results_of ty
branch_types (if_else ty first second) = results_of ty
branch_types _ = []

abbrev pub exits : Op → List ValType
exits (block ty body) = results_of ty
exits (loop ty body) = results_of ty
exits (if_else ty first second) = results_of ty
exits _ = []

abbrev pub IsBlock : Op → Type 0
IsBlock (block ty body) = Unit {0}
IsBlock (loop ty body) = Unit {0}
IsBlock (if_else ty first second) = Unit {0}
IsBlock _ = ⊥

-- a sequence leads from no operands to these, with no jump in it
abbrev pub After : Code → Context → List ValType → Type 0
After before C ts = HasNoJump before × TypesCode before C [] ts

-- A block with the operands under it, inside the labels of this context: what stands before it leads to it, and what
-- stands behind it leads to the types `out`.
pub record TypedLevel (C : Context) (lv : Level) (out : List ValType) : Type 0 where
  pub is_block : IsBlock lv.block.op
  pub rule : Rule lv.block.op C (enters lv.block.op) (exits lv.block.op)
  pub before : After lv.block.before C (enters lv.block.op ++ types_of lv.values)
  pub rest : TypesCode lv.block.rest C (exits lv.block.op ++ types_of lv.values) out
  pub range : All IsInRange lv.values
  pub constants : OpInRange lv.block.op × CodeInRange lv.block.rest

-- The innermost of these blocks gives `gives` at its end, the outermost the results of the body with the context B, and
-- their labels take the types `labels`.
abbrev pub TypedLevels : List Level → Context → List (List ValType) → List ValType → Type 0
TypedLevels [] B labels gives = (labels ≡ []) × (gives ≡ B.results)
TypedLevels (lv ∷ lvs) B labels gives =
    (outer : List (List ValType)) × (out : List ValType)
    × (labels ≡ branch_types lv.block.op ∷ outer) × (gives ≡ exits lv.block.op)
    × TypedLevel (with_labels outer B) lv out × TypedLevels lvs B outer out

-- Activations.

-- the function of this index, and its type
pub record IsFunction (m : Module) (index : ℕ) (f : Func) (t : FuncType) : Type 0 where
  pub there : slice_get m.funcs index ≡ Some f
  pub has_type : function_type m f ≡ Some t

-- an activation of this function, which goes on where operands of the types `more` stand over its own
pub record Typed (m : Module) (more : List ValType) (f : Func) (t : FuncType) (a : Activation) : Type 0 where
  pub labels : List (List ValType)
  pub gives : List ValType
  pub is_function : IsFunction m a.func f t
  pub results : length t.results ≡ a.results
  pub locals : Are (t.params ++ run_types f.locals) a.locals
  pub before : After a.before (with_labels labels (body_context m f t)) (more ++ types_of a.values)
  pub code : TypesCode a.code (with_labels labels (body_context m f t)) (more ++ types_of a.values) gives
  pub range : All IsInRange a.values
  pub constants : CodeInRange a.code
  pub levels : TypedLevels a.levels (body_context m f t) labels gives

-- callers of a call that gives `gives`, the first of which gives `results` outside
abbrev pub TypedCallers : Module → List ValType → List Activation → List ValType → Type 0
TypedCallers m gives [] results = gives ≡ results
TypedCallers m gives (c ∷ cs) results =
    (f : Func) × (t : FuncType) × Typed m gives f t c × TypedCallers m (reverse t.results) cs results

-- Configurations.

-- a configuration whose results have these types
abbrev pub TypedFlat : Module → List ValType → Flat → Type 0
TypedFlat m results (starting index vs) =
    (f : Func) × (t : FuncType)
    × IsFunction m index f t × Are (reverse t.params) vs × (reverse t.results ≡ results)
TypedFlat m results (running cs a) =
    (f : Func) × (t : FuncType) × Typed m [] f t a × TypedCallers m (reverse t.results) cs results
TypedFlat m results (finished vs) = Are results vs

-- a configuration with its store
pub record TypedState (m : Module) (results : List ValType) (c : State) : Type 0 where
  pub store : TypedStore m c.store
  pub flat : TypedFlat m results c.flat

-- there is a move, and what it leads to has a typing
abbrev pub IsMoved : Module → List ValType → Moved → Type 0
IsMoved m results (goes n s c) = TypedState m results (record { store = s; flat = c })
IsMoved m results (fails n k) = Unit {0}
IsMoved m results (over vs) = Are results vs
IsMoved m results none = ⊥
