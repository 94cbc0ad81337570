-- A configuration that has a typing has its numbers in their ranges.
use Rattle.std.proofs.Common.{List, [], ◌∷◌, reverse}
use Rattle.std.specs.Prelude.{All}
use Rattle.std.proofs.lemmas.List.Elements.{All-nil, All-append}
use Rattle.wm_ast.specs.declared.module.ValType.{ValType}
use Rattle.wm_ast.specs.declared.module.FuncType.{FuncType}
use Rattle.wm_ast.specs.declared.module.Func.{Func}
use Rattle.wm_ast.specs.declared.module.Module.{Module}
use Rattle.wm_valid.specs.Typing.{Context}
use Rattle.wm_flat.specs.Flat.{Level, Activation, Flat, starting, running, finished}
use Rattle.wm_flat.specs.FlatTyping.{TypedLevels, Typed, TypedCallers, TypedFlat, TypedState}
use Rattle.wm_flat.specs.Operands.{under, operands}
use Rattle.wm_valid.specs.InRange.{IsInRange}
use Rattle.wm_flat.specs.Ranges.{LevelsInRange, ActivationInRange, CallersInRange, FlatInRange, StateInRange}
use Rattle.wm_flat.specs.Runs.{State}

levels_in_range : (lvs : List Level) (B : Context) (labels : List (List ValType)) (gives : List ValType) → TypedLevels lvs B labels gives → LevelsInRange lvs
levels_in_range [] B labels gives t = tt
levels_in_range (lv ∷ lvs) B labels gives t = (t.4.range, levels_in_range lvs B t.0 t.1 t.5)

activation_in_range : (m : Module) (more : List ValType) (f : Func) (t : FuncType) (a : Activation) → Typed m more f t a → ActivationInRange a
activation_in_range m more f t a y = record { locals = y.locals.range; values = y.range; levels = levels_in_range a.levels _ y.labels y.gives y.levels }

callers_in_range : (m : Module) (gives : List ValType) (cs : List Activation) (results : List ValType) → TypedCallers m gives cs results → CallersInRange cs
callers_in_range m gives [] results t = tt
callers_in_range m gives (c ∷ cs) results t = (activation_in_range m gives t.0 t.1 c t.2, callers_in_range m (reverse t.1.results) cs results t.3)

flat_in_range : (m : Module) (results : List ValType) (c : Flat) → TypedFlat m results c → FlatInRange c
flat_in_range m results (starting n vs) t = t.3.range
flat_in_range m results (running cs a) t = (callers_in_range m (reverse t.1.results) cs results t.3, activation_in_range m [] t.0 t.1 a t.2)
flat_in_range m results (finished vs) t = t.range

pub in_range : (m : Module) (results : List ValType) (c : State) → TypedState m results c → StateInRange c
in_range m results c t = record { globals = t.store.globals.range; memory = t.store.memory.bytes; flat = flat_in_range m results c.flat t.flat }

under_in_range : (lvs : List Level) → LevelsInRange lvs → All IsInRange (under lvs)
under_in_range [] h = All-nil IsInRange
under_in_range (lv ∷ lvs) h = All-append IsInRange lv.values (under lvs) h.0 (under_in_range lvs h.1)

-- so have all operands of an activation
pub operands_in_range : (a : Activation) → ActivationInRange a → All IsInRange (operands a)
operands_in_range a h = All-append IsInRange a.values (under a.levels) h.values (under_in_range a.levels h.levels)
