-- What linked modules run over: as `Store` of `wm_ast`, but that each module has globals of its own, and that a function
-- is told by the number of the module that defines it and its place there.
use Rattle.std.specs.Prelude.{ℕ, List, [], Option, option_and_then, slice_get, slice_set, unwrap_or}
use Rattle.mc_nbt.specs.declared.value.Value.{Value}
use Rattle.wm_ast.specs.declared.module.FuncType.{FuncType}
use Rattle.wm_ast.specs.declared.module.Module.{Module}
use Rattle.wm_ast.specs.Store as one_store
use Rattle.wm_ast.specs.Store.{Callee}
use Rattle.wm_match.specs.declared.library.Binding.{Binding}
use Rattle.wm_match.specs.Program.{Program, module_at}
use Rattle.wm_join.specs.Joined.{all_items}

-- The store: the values of the globals, a list for each module; the bytes of the one memory, and the elements of the one
-- table.
pub record Store : Type 0 where
  pub globals : List (List Value)
  pub memory : List ℕ
  pub table : List (Option Binding)

-- the store as the module of this number sees it; no instruction but a call reads the table
abbrev pub own_store : ℕ → Store → one_store.Store
own_store k s = record { globals = unwrap_or (slice_get s.globals k) []; memory = s.memory; table = [] }

-- the store after the module of this number has changed what it sees
abbrev pub with_own : ℕ → Store → one_store.Store → Store
with_own k s own = record s { globals = slice_set s.globals k own.globals; memory = own.memory }

-- the main module with the memories of all modules, of which there is at most one: how far a memory grows is read there
abbrev pub with_memories : Program → Module
with_memories p = record p.main { mems = all_items p (λ k m. m.mems) }

-- the type of this index in the module of number k
abbrev pub type_at : Program → ℕ → ℕ → Option FuncType
type_at p k n = option_and_then (λ m. slice_get m.types n) (module_at p k)

-- a function for its callers, as the module has it that defines it
abbrev pub callee_of : Program → Binding → Option Callee
callee_of p f = option_and_then (λ m. one_store.callee_of m f.index) (module_at p f.module)
