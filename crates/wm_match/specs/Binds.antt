-- Which bindings link modules.
use Rattle.std.specs.Prelude.{◌≡◌, ◌≢◌, ℕ, ◌+◌, ◌<◌, ◌≤◌, List, [], ◌∷◌, length, All, AllPairs, Contains}
use Rattle.std.specs.Prelude.{Option, Some, None, slice_get, option_and_then}
use Rattle.wm_ast.specs.declared.module.Export.{Export}
use Rattle.wm_ast.specs.declared.module.FuncType.{FuncType}
use Rattle.wm_ast.specs.declared.module.Import.{Import}
use Rattle.wm_ast.specs.declared.module.Imported.{Imported}
use Rattle.wm_ast.specs.declared.module.Imported.TheVariants as imported
use Rattle.wm_ast.specs.declared.module.Limits.{Limits}
use Rattle.wm_ast.specs.declared.module.Module.{Module}
use Rattle.wm_ast.specs.declared.module.Space.{Space}
use Rattle.wm_ast.specs.declared.module.Space.TheVariants as spaces
use Rattle.wm_ast.specs.Types.{function_type}
use Rattle.wm_match.specs.declared.library.Binding.{Binding}
use Rattle.wm_match.specs.declared.library.Library.{Library}
use Rattle.wm_match.specs.Closed.{Closed}
use Rattle.wm_match.specs.Program.{Program, modules_of, modules, module_at, bindings_at}
use Rattle.wm_match.specs.Space.{space_of, own_count, stands_for}

-- Whether an item is what an import wants.

-- the greatest size is as the import wants it
abbrev pub IsMostWithin : Option ℕ → Option ℕ → Type 0
IsMostWithin None most = Unit {0}
IsMostWithin (Some wanted) None = ⊥
IsMostWithin (Some wanted) (Some most) = most ≤ wanted

-- limits as declared, against those that an import wants (3.3.3 of edition 1.0)
abbrev pub AreLimitsWithin : Limits → Limits → Type 0
AreLimitsWithin wanted l = (wanted.min ≤ l.min) × IsMostWithin wanted.max l.max

module _ (p : Program) where
  -- the type of a function that a module defines
  abbrev pub type_of : Binding → Option FuncType
  type_of b = option_and_then (λ m. option_and_then (function_type m) (slice_get m.funcs b.index)) (module_at p b.module)

  -- the limits of a table that a module defines
  abbrev pub table_of : Binding → Option Limits
  table_of b = option_and_then (λ m. slice_get m.tables b.index) (module_at p b.module)

  -- the limits of a memory that a module defines
  abbrev pub memory_of : Binding → Option Limits
  memory_of b = option_and_then (λ m. slice_get m.mems b.index) (module_at p b.module)

  -- the item is what an import of the module m wants
  abbrev pub Matches : Module → Imported → Binding → Type 0
  Matches m (imported.Func t) b = (type : FuncType) × (slice_get m.types t ≡ Some type) × (type_of b ≡ Some type)
  Matches m (imported.Table wanted) b = (l : Limits) × (table_of b ≡ Some l) × AreLimitsWithin wanted l
  Matches m (imported.Memory wanted) b = (l : Limits) × (memory_of b ≡ Some l) × AreLimitsWithin wanted l
  Matches m (imported.Global ty is_mutable) b = ⊥

-- What an import is bound to.

-- An earlier library of the name that an import of module k tells has an export of the name that it tells.
pub record IsFound (libraries : List Library) (k : ℕ) (i : Import) : Type 0 where
  pub number : ℕ
  pub library : Library
  pub there : slice_get libraries number ≡ Some library
  pub earlier : number < k
  pub name : library.name ≡ i.module
  pub item : Export
  pub exported : Contains library.module.exports item
  pub item_name : item.name ≡ i.name

-- The binding is what that export stands for, a re-exported item what it stands for in the module that imports it.
pub record IsBound (p : Program) (k : ℕ) (m : Module) (i : Import) (b : Binding) : Type 0 where
  pub found : IsFound p.libraries k i
  pub kind : found.item.space ≡ space_of i.what
  pub stands : stands_for p found.item.space found.number found.item.index ≡ Some b
  pub type : Matches p m i.what b

-- The imports of the modules before number k are bound.
pub record AreBound (p : Program) (k : ℕ) : Type 0 where
  pub counts : (j : ℕ) (m : Module)
      → j < k → module_at p j ≡ Some m → length (bindings_at p j) ≡ length m.imports
  pub bound : (j n : ℕ) (m : Module) (i : Import) (b : Binding)
      → j < k → module_at p j ≡ Some m → slice_get m.imports n ≡ Some i → slice_get (bindings_at p j) n ≡ Some b
      → IsBound p j m i b

-- Whether imports can be looked up.

-- two libraries have different names
abbrev pub HaveOtherNames : Library → Library → Type 0
HaveOtherNames l other = l.name ≢ other.name

-- the names of the libraries differ
abbrev pub NamesDiffer : List Library → Type 0
NamesDiffer libraries = AllPairs HaveOtherNames libraries

-- the import is no global
abbrev pub IsNoGlobal : Import → Type 0
IsNoGlobal i = space_of i.what ≢ spaces.Global

-- the module imports no global
abbrev pub ImportsNoGlobal : Module → Type 0
ImportsNoGlobal m = All IsNoGlobal m.imports

-- the library has no start function
abbrev pub HasNoStart : Library → Type 0
HasNoStart l = l.module.start ≡ None

-- The names of the libraries differ, no import is a global, all modules are closed, and no library has a start function.
pub record CanBeBound (libraries : List Library) (main : Module) : Type 0 where
  pub names : NamesDiffer libraries
  pub no_global : All ImportsNoGlobal (modules_of libraries main)
  pub closed : All Closed (modules_of libraries main)
  pub no_start : All HasNoStart libraries

-- how many items in a space the modules define
abbrev pub defined : Space → List Module → ℕ
defined space [] = 0
defined space (m ∷ ms) = own_count space m + defined space ms

-- The libraries and the main module are linked by the bindings.
pub record Binds (p : Program) : Type 0 where
  pub can : CanBeBound p.libraries p.main
  pub parts : length p.bindings ≡ length (modules p)
  pub bound : AreBound p (length (modules p))
  pub one_memory : defined spaces.Memory (modules p) ≤ 1
  pub one_table : defined spaces.Table (modules p) ≤ 1
