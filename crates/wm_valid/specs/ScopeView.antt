-- What contracts see of the code's `Scope` and `Change`.
use Rattle.std.specs.Prelude.{◌≡◌, ◌++◌, reverse, Option, Some, None}
use Rattle.wm_ast.specs.declared.module.Func.{Func}
use Rattle.wm_ast.specs.declared.module.FuncType.{FuncType}
use Rattle.wm_ast.specs.declared.module.Module.{Module}
use Rattle.wm_ast.specs.Types.{run_types, function_type}
use Rattle.wm_valid.specs.declared.rule.Change.{Change as Found}
use Rattle.wm_valid.specs.declared.scope.Scope.{Scope as Surroundings}
use Rattle.wm_valid.specs.Typing.{Scope, body_scope}
use Rattle.wm_valid.specs.Arrows.{Change, changes}

-- a change, with what is given the last first
abbrev pub made : Found → Change
made e = changes e.takes (reverse e.gives.now)

-- the scope of a body
abbrev pub body_of : Surroundings → Scope
body_of s = body_scope s.module.now s.locals.items

-- what the body of a function of this type may name
pub record IsScopeOf (s : Surroundings) (m : Module) (f : Func) (t : FuncType) : Type 0 where
  pub of_module : s.module.now ≡ m
  pub named : function_type m f ≡ Some t
  pub locals : s.locals.items ≡ t.params ++ run_types f.locals
  pub results : s.results.now ≡ t.results

-- what the body of a function may name, or none where its type index names no type
abbrev pub ScopeFound : Option Surroundings → Module → Func → Type 0
ScopeFound None m f = function_type m f ≡ None
ScopeFound (Some s) m f = (t : FuncType) × IsScopeOf s m f t
