-- What the code keeps of a reduction, and how it is seen.
use Rattle.std.specs.Prelude.{◌≡◌, ℕ, List}
use Rattle.mc_nbt.specs.declared.value.Value.{Value}
use Rattle.wm_ast.specs.declared.module.Module.{Module}
use Rattle.wm_ast.specs.Store.{Store}
use Rattle.wm_flat.specs.Flat.{starting, config_of}
use Rattle.wm_flat.specs.FlatTyping.{TypedStore}
use Rattle.wm_reduce.specs.declared.calls.Term.{Term}
use Rattle.wm_reduce.specs.declared.task.Moved.{Moved}
use Rattle.wm_reduce.specs.declared.task.Task.{Task}
use Rattle.wm_reduce.specs.declared.task.Task.TheVariants.{Resting, Calling, Reducing}
use Rattle.wm_reduce.specs.Soundness.{IsKept, CanBegin}
use Rattle.wm_reduce.specs.TermView.{flat_of}

-- a call from outside that can begin, and is never stuck
pub record CanCall (m : Module) (s : Store) (f : ℕ) (arguments : List Value) : Type 0 where
  pub begins : CanBegin m f arguments
  pub kept : IsKept m (config_of s (starting f arguments))

-- what is kept of the store and the task
pub record Keeps (m : Module) (s : Store) (task : Task) : Type 0 where
  pub resting : (last : Moved) → task ≡ Resting last → ∥ TypedStore m s ∥₁
  pub calling : (f : ℕ) (arguments : List Value) → task ≡ Calling f arguments → CanCall m s f arguments
  pub reducing : (t : Term) → task ≡ Reducing t → IsKept m (config_of s (flat_of t))
