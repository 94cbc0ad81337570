-- What becomes of a program that has a typing.
use Rattle.std.specs.Prelude.{List}
use Rattle.wm_ast.specs.declared.module.ValType.{ValType}
use Rattle.wm_ast.specs.declared.module.Module.{Module}
use Rattle.wm_ast.specs.Step.{Progress, Next, Ended, Trapped, Stuck}
use Rattle.wm_flat.specs.FlatTyping.{Are, TypedStore}

-- It isn't stuck. Where it has ended its results have these types, the first of them first, and lie in their ranges.
-- Where it has ended or trapped the store has its types.
abbrev pub IsSound : Module → List ValType → Progress → Type 0
IsSound m results (Next c) = Unit {0}
IsSound m results (Ended vs s) = TypedStore m s × Are results vs
IsSound m results (Trapped k s) = TypedStore m s
IsSound m results Stuck = ⊥
