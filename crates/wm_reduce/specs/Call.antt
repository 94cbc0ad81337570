-- Calls from outside, and where a program begins.
use Rattle.std.specs.Prelude.{◌≡◌, ◌≢◌, ℕ, List, true, false, Option, Some, None, Result, Ok, Err, option_map}
use Rattle.std.specs.Prelude.{slice_get}
use Rattle.mc_nbt.specs.declared.value.Value.{Value}
use Rattle.wm_ast.specs.declared.module.Func.{Func}
use Rattle.wm_ast.specs.declared.module.FuncType.{FuncType}
use Rattle.wm_ast.specs.declared.module.Module.{Module}
use Rattle.wm_ast.specs.Instance.{call_config, exported_functions, first_config, first_store}
use Rattle.wm_flat.specs.FlatTyping.{IsFunction, types_of}
use Rattle.wm_reduce.specs.declared.task.CallFault.{CallFault}
use Rattle.wm_reduce.specs.declared.task.CallFault.TheVariants as faults
use Rattle.wm_reduce.specs.declared.task.Moved.TheVariants as moves
use Rattle.wm_reduce.specs.declared.task.Phase.{Phase}
use Rattle.wm_reduce.specs.declared.task.Phase.TheVariants.{Starting, Ready, Dead}
use Rattle.wm_reduce.specs.State.{State}

-- The beginning.

-- the start function is under reduction, where there is one
abbrev pub first_phase : Option ℕ → Phase
first_phase None = Ready
first_phase (Some f) = Starting

-- a program after instantiation: the first store, and under reduction the call of the start
-- function, where there is one
abbrev pub first_state : Module → State
first_state m = record {
  program = m;
  store = first_store m;
  term = option_map (λ f. (first_config m).term) m.start;
  last = moves.Ended None;
  phase = first_phase m.start;
  failed = false;
}

-- Calls.

-- the function of this index takes arguments of these types
pub record Takes (m : Module) (f : ℕ) (arguments : List Value) : Type 0 where
  pub func : Func
  pub type : FuncType
  pub is_function : IsFunction m f func type
  pub types : types_of arguments ≡ type.params

-- the function export of this number is that function, and it takes these arguments
pub record Calls (m : Module) (k : ℕ) (arguments : List Value) (f : ℕ) : Type 0 where
  pub exported : slice_get (exported_functions m) k ≡ Some f
  pub takes : Takes m f arguments

-- the state in which the function is called over these arguments, and nothing else has changed
abbrev pub called : State → ℕ → List Value → State
called s f arguments =
    record s { term = Some (call_config s.store f arguments).term; last = moves.Ended None }

-- What a call of the function export of this number answers, and the reduction after it. Each answer comes exactly
-- where its case is true, want of memory aside; a reduction to which memory was wanting answers that first.
abbrev pub IsCalled : State → ℕ → List Value → Result (Unit {0}) CallFault → State → Type 0
IsCalled s k arguments (Err faults.Memory) t = (t.failed ≡ true) × (s.failed ≡ true → t ≡ s)
IsCalled s k arguments (Err faults.NoFunction) t =
    (t ≡ s) × (s.failed ≡ false) × (slice_get (exported_functions s.program) k ≡ None)
IsCalled s k arguments (Err faults.WrongArgs) t =
    (t ≡ s) × (s.failed ≡ false)
    × (f : ℕ) × (slice_get (exported_functions s.program) k ≡ Some f) × (¬ Takes s.program f arguments)
IsCalled s k arguments (Err faults.Busy) t =
    (t ≡ s) × (s.failed ≡ false) × (f : ℕ) × Calls s.program k arguments f × (s.term ≢ None)
IsCalled s k arguments (Err faults.Dead) t =
    (t ≡ s) × (s.failed ≡ false) × (f : ℕ) × Calls s.program k arguments f × (s.term ≡ None) × (s.phase ≡ Dead)
IsCalled s k arguments (Ok unit) t =
    (s.failed ≡ false) × (f : ℕ) × Calls s.program k arguments f × (s.term ≡ None) × (s.phase ≢ Dead)
    × (t ≡ called s f arguments)
