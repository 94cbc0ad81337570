-- Why modules aren't linked: the first cause, in the order of the passes, and of each pass at the first place.
use Rattle.std.specs.Prelude.{◌≡◌, ◌≢◌, ℕ, ◌<◌, ◌≤◌, List, length, take, All, Some, None, slice_get}
use Rattle.std.specs.Prelude.{Result, Ok, Err}
use Rattle.wm_ast.specs.declared.module.Import.{Import}
use Rattle.wm_ast.specs.declared.module.Module.{Module}
use Rattle.wm_ast.specs.declared.module.Space.{Space}
use Rattle.wm_ast.specs.declared.module.Space.TheVariants as spaces
use Rattle.wm_match.specs.declared.fault.MatchFault.{MatchFault}
use Rattle.wm_match.specs.declared.fault.MatchFault.TheVariants as faults
use Rattle.wm_match.specs.declared.fault.Single.{Single}
use Rattle.wm_match.specs.declared.fault.Single.TheVariants as singles
use Rattle.wm_match.specs.declared.library.Binding.{Binding}
use Rattle.wm_match.specs.declared.library.Library.{Library}
use Rattle.wm_match.specs.Binds.{IsFound, IsBound, AreBound, NamesDiffer, ImportsNoGlobal, CanBeBound, defined, Binds}
use Rattle.wm_match.specs.Closed.{Closed}
use Rattle.wm_match.specs.Program.{Program, modules_of}
use Rattle.wm_match.specs.Space.{space_of, own_count}

-- the first number at which something holds
abbrev pub IsFirst : (ℕ → Type 0) → ℕ → Type 0
IsFirst P k = P k × ((j : ℕ) → j < k → ¬ P j)

-- the first place at which something holds, in order of modules and then of imports
abbrev pub IsFirstPlace : (ℕ → ℕ → Type 0) → ℕ → ℕ → Type 0
IsFirstPlace P k n = P k n × ((j i : ℕ) → j < k → ¬ P j i) × ((i : ℕ) → i < n → ¬ P k i)

-- these libraries and this main module, and how their imports are bound
abbrev pub program : List Library → Module → List (List Binding) → Program
program libraries main bs = record { libraries = libraries; main = main; bindings = bs }

-- An earlier library has the name of library k.
pub record HasSameName (libraries : List Library) (k : ℕ) : Type 0 where
  pub library : Library
  pub there : slice_get libraries k ≡ Some library
  pub number : ℕ
  pub other : Library
  pub earlier : number < k
  pub other_there : slice_get libraries number ≡ Some other
  pub same : other.name ≡ library.name

-- Library k has a start function.
pub record HasStart (libraries : List Library) (k : ℕ) : Type 0 where
  pub library : Library
  pub there : slice_get libraries k ≡ Some library
  pub start : library.module.start ≢ None

-- the libraries, and the main module
module _ (libraries : List Library) (main : Module) where
  -- Module k has this import at place n.
  pub record IsImport (k n : ℕ) (m : Module) (i : Import) : Type 0 where
    pub there : slice_get (modules_of libraries main) k ≡ Some m
    pub imported : slice_get m.imports n ≡ Some i

  -- Import n of module k is a global.
  pub record ImportsGlobal (k n : ℕ) : Type 0 where
    pub importer : Module
    pub item : Import
    pub imports : IsImport k n importer item
    pub global : space_of item.what ≡ spaces.Global

  -- Module k isn't closed.
  pub record IsNotClosed (k : ℕ) : Type 0 where
    pub found : Module
    pub there : slice_get (modules_of libraries main) k ≡ Some found
    pub not_closed : ¬ Closed found

  -- The imports of module m, which has number k, are bound before place n to these.
  pub record AreBoundTo (p : Program) (k n : ℕ) (m : Module) (part : List Binding) : Type 0 where
    pub count : length part ≡ n
    pub bound : (i : ℕ) (x : Import) (b : Binding)
        → slice_get m.imports i ≡ Some x → slice_get part i ≡ Some b → IsBound p k m x b

  -- All imports before import n of module k are bound, and no earlier library of the name that it tells has an export of
  -- the name that it tells.
  pub record IsUnknown (k n : ℕ) : Type 0 where
    pub importer : Module
    pub item : Import
    pub imports : IsImport k n importer item
    pub bindings : List (List Binding)
    pub below : AreBound (program libraries main bindings) k
    pub part : List Binding
    pub before : AreBoundTo (program libraries main bindings) k n importer part
    pub unknown : ¬ IsFound libraries k item

  -- All imports before import n of module k are bound, and there is such an export, but its kind or type isn't that of
  -- the import.
  pub record IsMismatch (k n : ℕ) : Type 0 where
    pub importer : Module
    pub item : Import
    pub imports : IsImport k n importer item
    pub bindings : List (List Binding)
    pub below : AreBound (program libraries main bindings) k
    pub part : List Binding
    pub before : AreBoundTo (program libraries main bindings) k n importer part
    pub found : IsFound libraries k item
    pub unbound : (b : Binding) → ¬ IsBound (program libraries main bindings) k importer item b

  -- Module k defines an item of the space, and so does an earlier one.
  pub record DefinesSecond (space : Space) (k : ℕ) : Type 0 where
    pub found : Module
    pub there : slice_get (modules_of libraries main) k ≡ Some found
    pub own : 1 ≤ own_count space found
    pub earlier : 1 ≤ defined space (take k (modules_of libraries main))

  -- all imports are bound
  abbrev pub AllBound : Type 0
  AllBound =
      (bs : List (List Binding)) × AreBound (program libraries main bs) (length (modules_of libraries main))

  -- a second memory or table: memories are looked at before tables
  abbrev pub IsSecond : Single → ℕ → Type 0
  IsSecond singles.Memory k = IsFirst (DefinesSecond spaces.Memory) k
  IsSecond singles.Table k =
      (defined spaces.Memory (modules_of libraries main) ≤ 1) × IsFirst (DefinesSecond spaces.Table) k

  -- The cause of a fault: what its pass looks for is there, at this place first, and the passes before found nothing.
  abbrev pub IsCause : MatchFault → Type 0
  IsCause (faults.SameName k) = IsFirst (HasSameName libraries) k
  IsCause (faults.GlobalImport k n) = NamesDiffer libraries × IsFirstPlace ImportsGlobal k n
  IsCause (faults.NotClosed k) =
      NamesDiffer libraries × All ImportsNoGlobal (modules_of libraries main) × IsFirst IsNotClosed k
  IsCause (faults.Start k) =
      NamesDiffer libraries × All ImportsNoGlobal (modules_of libraries main) × All Closed (modules_of libraries main)
      × IsFirst (HasStart libraries) k
  IsCause (faults.Unknown k n) = CanBeBound libraries main × IsUnknown k n
  IsCause (faults.Mismatch k n) = CanBeBound libraries main × IsMismatch k n
  IsCause (faults.Second k single) = CanBeBound libraries main × AllBound × IsSecond single k
  IsCause faults.Memory = Unit {0}

  -- an answer: bindings that link the modules, or the cause of a fault
  abbrev pub IsResolved : Result (List (List Binding)) MatchFault → Type 0
  IsResolved (Ok bs) = Binds (program libraries main bs)
  IsResolved (Err fault) = IsCause fault
