-- What the passes over the modules ask of one module or import.
use Rattle.std.specs.Prelude.{◌≡◌, ◌≢◌, ℕ, List, ◌<◌, ◌≤◌, Bool, false, ◌||◌, Some, slice_get}
use Rattle.std.specs.List.{list_any}
use Rattle.wm_ast.specs.declared.module.Export.{Export}
use Rattle.wm_ast.specs.declared.module.Import.{Import}
use Rattle.wm_ast.specs.declared.module.Module.{Module}
use Rattle.wm_ast.specs.declared.module.Space.{Space}
use Rattle.wm_ast.specs.declared.module.Space.TheVariants as spaces
use Rattle.wm_match.specs.declared.lookup.Lookup.{Lookup}
use Rattle.wm_match.specs.declared.lookup.Lookup.TheVariants as lookups
use Rattle.wm_match.specs.declared.library.Binding.{Binding}
use Rattle.wm_match.specs.declared.library.Library.{Library}
use Rattle.wm_match.specs.declared.sizes.Sizes.{Sizes}
use Rattle.wm_match.specs.Binds.{Matches, IsFound, IsBound}
use Rattle.wm_match.specs.Closed.{sizes_of, is_open_import, is_open_function, is_open_global, is_open_export, is_open_element}
use Rattle.wm_match.specs.Closed.{is_open_data, is_open_start}
use Rattle.wm_match.specs.Program.{Program}
use Rattle.wm_match.specs.Space.{space_of, own_count, space_size, items_of}

-- an index of a function, of a global or of a segment names nothing
abbrev pub has_open_code : Sizes → Module → Bool
has_open_code s m =
    ((list_any (is_open_function s) m.funcs || list_any (is_open_global s) m.globals)
    || list_any (is_open_element s) m.elems)
    || list_any (is_open_data s) m.datas

-- an index of an import, of an export or of the start function names nothing
abbrev pub has_open_name : Sizes → Module → Bool
has_open_name s m =
    (list_any (is_open_import s) m.imports || list_any (is_open_export s) m.exports) || is_open_start s m.start

-- an index names nothing
abbrev pub has_open_item : Sizes → Module → Bool
has_open_item s m = has_open_code s m || has_open_name s m

-- the module is closed, but that the names of its exports aren't looked at
abbrev pub IsClosedButForNames : Module → Type 0
IsClosedButForNames m =
    (has_open_item (sizes_of m) m ≡ false) × ((space_size spaces.Table m ≤ 1) × (space_size spaces.Memory m ≤ 1))

-- what the look-up of an import of module k tells
abbrev pub IsLookup : Program → ℕ → Module → Import → Lookup → Type 0
IsLookup p k m i (lookups.Bound b) = IsBound p k m i b
IsLookup p k m i lookups.Unknown = ¬ IsFound p.libraries k i
IsLookup p k m i lookups.Mismatch = IsFound p.libraries k i × ((b : Binding) → ¬ IsBound p k m i b)

-- what the look-up of an import of module k tells of library l, which has number j and the name that the import tells,
-- and whose imports are bound to these
abbrev pub IsLookupIn : Program → ℕ → Module → Import → ℕ → Library → List Binding → Lookup → Type 0
IsLookupIn p k m i j l part (lookups.Bound b) =
    (n : ℕ) × (e : Export) × (slice_get l.module.exports n ≡ Some e) × (e.name ≡ i.name)
    × (e.space ≡ space_of i.what) × (slice_get (items_of e.space j l.module part) e.index ≡ Some b)
    × Matches p m i.what b
IsLookupIn p k m i j l part lookups.Unknown =
    (n : ℕ) (e : Export) → slice_get l.module.exports n ≡ Some e → e.name ≢ i.name
IsLookupIn p k m i j l part lookups.Mismatch =
    (n : ℕ) × (e : Export) × (slice_get l.module.exports n ≡ Some e) × (e.name ≡ i.name)
    × ((b : Binding) → e.space ≡ space_of i.what → slice_get (items_of e.space j l.module part) e.index ≡ Some b
    → ¬ Matches p m i.what b)

-- import n of the module is a global
abbrev pub IsGlobalAt : Module → ℕ → Type 0
IsGlobalAt m n = (i : Import) × (slice_get m.imports n ≡ Some i) × (space_of i.what ≡ spaces.Global)

-- the module defines one item of the space at most
abbrev pub DefinesOneAtMost : Space → Module → Type 0
DefinesOneAtMost space m = own_count space m ≤ 1

-- so it is of each item before an index
abbrev pub Before : {A : Type 0} → (A → Type 0) → List A → ℕ → Type 0
Before P xs k = (j : ℕ) (x : _) → j < k → slice_get xs j ≡ Some x → P x
