-- What the indices of a module stand for (2.5.1). In each space what the module imports comes first, in the order of
-- its imports, and then what it defines.
use Rattle.std.specs.Prelude.{ℕ, zero, suc, ◌+◌, List, [], ◌∷◌, ◌++◌, length, Bool, true, false, if◌then◌else◌}
use Rattle.std.specs.Prelude.{count_by, Option, option_and_then, slice_get}
use Rattle.wm_ast.specs.declared.module.Import.{Import}
use Rattle.wm_ast.specs.declared.module.Imported.{Imported}
use Rattle.wm_ast.specs.declared.module.Imported.TheVariants as imported
use Rattle.wm_ast.specs.declared.module.Module.{Module}
use Rattle.wm_ast.specs.declared.module.Space.{Space}
use Rattle.wm_ast.specs.declared.module.Space.TheVariants as spaces
use Rattle.wm_match.specs.declared.library.Binding.{Binding}
use Rattle.wm_match.specs.Program.{Program, module_at, bindings_at}

-- the space in which an import takes an index
abbrev pub space_of : Imported → Space
space_of (imported.Func n) = spaces.Func
space_of (imported.Table l) = spaces.Table
space_of (imported.Memory l) = spaces.Memory
space_of (imported.Global ty is_mutable) = spaces.Global

-- two spaces are one
abbrev pub same_space : Space → Space → Bool
same_space spaces.Func spaces.Func = true
same_space spaces.Table spaces.Table = true
same_space spaces.Memory spaces.Memory = true
same_space spaces.Global spaces.Global = true
same_space _ _ = false

-- the import takes an index in this space
abbrev pub is_in : Space → Import → Bool
is_in space i = same_space space (space_of i.what)

-- how many items the module defines in a space
abbrev pub own_count : Space → Module → ℕ
own_count spaces.Func m = length m.funcs
own_count spaces.Table m = length m.tables
own_count spaces.Memory m = length m.mems
own_count spaces.Global m = length m.globals

-- how many indices a space of the module has
abbrev pub space_size : Space → Module → ℕ
space_size space m = count_by (is_in space) m.imports + own_count space m

-- so many items that the module of this number defines, from this one on
abbrev pub own_items : ℕ → ℕ → ℕ → List Binding
own_items k from zero = []
own_items k from (suc count) = record { «module» = k; index = from } ∷ own_items k (suc from) count

-- what the imports in a space are bound to
abbrev pub imported_items : Space → List Import → List Binding → List Binding
imported_items space (i ∷ is) (b ∷ bs) =
    if is_in space i then b ∷ imported_items space is bs else imported_items space is bs
imported_items space _ _ = []

-- what the indices of the module of this number stand for, index by index
abbrev pub items_of : Space → ℕ → Module → List Binding → List Binding
items_of space k m bs = imported_items space m.imports bs ++ own_items k 0 (own_count space m)

-- what an index of the module of this number stands for
abbrev pub stands_for : Program → Space → ℕ → ℕ → Option Binding
stands_for p space k n = option_and_then (λ m. slice_get (items_of space k m (bindings_at p k)) n) (module_at p k)
