-- What the code's functions found, against what is computed on lists, and views of the code's own types.
use Rattle.std.specs.Prelude.{◌≡◌, Bool, true, false, List, map, reverse, Option, Some, None, Result, Ok, Err}
use Rattle.std.specs.Borrow.{Bor}
use Rattle.wm_ast.specs.declared.module.Func.{Func}
use Rattle.wm_ast.specs.declared.module.Module.{Module}
use Rattle.wm_ast.specs.declared.module.ValType.{ValType}
use Rattle.wm_ast.specs.Operation.{Arrow}
use Rattle.wm_valid.specs.declared.body.BodyFault.{BodyFault}
use Rattle.wm_valid.specs.declared.body.BodyFault.TheVariants as bodies
use Rattle.wm_valid.specs.declared.fault.Fault.{Fault}
use Rattle.wm_valid.specs.declared.fault.Fault.TheVariants.{Untyped, Memory}
use Rattle.wm_valid.specs.declared.operands.Operands.{Operands}
use Rattle.wm_valid.specs.declared.scope.Scope.{Scope as Surroundings}
use Rattle.wm_valid.specs.declared.signature.Signature.{Signature}
use Rattle.wm_valid.specs.Typing.{Context, HasTyping, IsFirstUntyped}
use Rattle.wm_valid.specs.Arrows.{arrow}
use Rattle.wm_valid.specs.ScopeView.{body_of}
use Rattle.wm_valid.specs.steps.Checking.{Shape, over}

-- the check finds nothing, unless memory ran out
abbrev pub FindsNone : {Y : Type 0} → Fault → Option Y → Type 0
FindsNone Memory check = Unit {0}
FindsNone Untyped check = check ≡ None

-- the value, seen by the view, is what the check finds, unless memory ran out
abbrev pub Finds : {X Y : Type 0} → (X → Y) → Result X Fault → Option Y → Type 0
Finds view (Ok x) check = check ≡ Some (view x)
Finds view (Err e) check = FindsNone e check

-- the operands, the last first
abbrev pub shape : Operands → Shape
shape s = over (reverse s.known.items) s.any_below

-- what is taken and given, the last first
abbrev pub seen : Signature → Arrow
seen g = arrow (reverse g.takes.now) (reverse g.gives.now)

-- what labels take, the innermost first
abbrev pub labels_of : List (Bor (List ValType)) → List (List ValType)
labels_of ls = map (λ l. reverse l.now) (reverse ls)

-- the context of a body, under these labels
abbrev pub context : Surroundings → List (List ValType) → Context
context s labels = record { scope = body_of s; labels = labels; results = reverse s.results.now }

-- a function was found to have a typing, or to have none, unless memory ran out
abbrev pub TypesFunction : {X : Type 0} → Result X Fault → Module → Func → Type 0
TypesFunction (Ok x) m f = HasTyping m f
TypesFunction (Err Untyped) m f = ¬ HasTyping m f
TypesFunction (Err Memory) m f = Unit {0}

-- the first function without a typing, unless memory ran out
abbrev pub IsBodyFault : BodyFault → Module → Type 0
IsBodyFault (bodies.Untyped n) m = IsFirstUntyped m n
IsBodyFault bodies.Memory m = Unit {0}

-- these operands stand there, or none where it isn't reached
abbrev pub Came : Bool → Option (List ValType) → List ValType → Type 0
Came true found ts = found ≡ Some ts
Came false found ts = found ≡ None
