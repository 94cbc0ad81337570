-- What is kept of a configuration under reduction.
use Rattle.std.specs.Prelude.{◌≡◌, ◌≢◌, ℕ, ◌≤◌, List, length, Some, None}
use Rattle.mc_nbt.specs.declared.value.Value.{Value}
use Rattle.wm_ast.specs.declared.answer.TrapKind.{TrapKind}
use Rattle.wm_ast.specs.declared.module.Module.{Module}
use Rattle.wm_ast.specs.After.{after}
use Rattle.wm_ast.specs.Configuration.{Config}
use Rattle.wm_ast.specs.Step.{Ended, Trapped, Stuck}
use Rattle.wm_ast.specs.Store.{Store, Callee, callee_of}
use Rattle.wm_flat.specs.FlatTyping.{TypedStore}

-- It is never stuck. It ends with at most one value, and where it has ended or trapped the store has its types.
pub record IsKept (m : Module) (c : Config) : Type 0 where
  pub never_stuck : (n : ℕ) → after m c n ≢ Stuck
  pub one_value : (n : ℕ) (vs : List Value) (s : Store) → after m c n ≡ Ended vs s → length vs ≤ 1
  pub at_end : (n : ℕ) (vs : List Value) (s : Store) → after m c n ≡ Ended vs s → ∥ TypedStore m s ∥₁
  pub at_trap : (n : ℕ) (k : TrapKind) (s : Store) → after m c n ≡ Trapped k s → ∥ TypedStore m s ∥₁

-- The function is there, and takes so many arguments.
pub record CanBegin (m : Module) (f : ℕ) (arguments : List Value) : Type 0 where
  pub there : callee_of m f ≢ None
  pub count : (c : Callee) → callee_of m f ≡ Some c → length arguments ≡ length c.takes
