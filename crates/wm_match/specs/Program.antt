-- Modules that are linked: the libraries in their order, and the main module behind them.
use Rattle.std.specs.Prelude.{ℕ, List, [], ◌∷◌, ◌++◌, map, Option, slice_get, unwrap_or}
use Rattle.wm_ast.specs.declared.module.Module.{Module}
use Rattle.wm_match.specs.declared.library.Binding.{Binding}
use Rattle.wm_match.specs.declared.library.Library.{Library}

-- the modules, and what the imports of each are bound to
pub record Program : Type 0 where
  pub libraries : List Library
  pub main : Module
  pub bindings : List (List Binding)

-- the module of a library
abbrev pub module_of : Library → Module
module_of l = l.module

-- the modules, by their numbers
abbrev pub modules_of : List Library → Module → List Module
modules_of libraries main = map module_of libraries ++ main ∷ []

-- all modules of a program
abbrev pub modules : Program → List Module
modules p = modules_of p.libraries p.main

-- the module of this number
abbrev pub module_at : Program → ℕ → Option Module
module_at p k = slice_get (modules p) k

-- what the imports of the module of this number are bound to
abbrev pub bindings_at : Program → ℕ → List Binding
bindings_at p k = unwrap_or (slice_get p.bindings k) []
