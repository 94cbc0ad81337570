-- What only the code's own steps speak of.
use Rattle.std.specs.Prelude.{◌≡◌, ◌≢◌, ℕ, ℤ, pos, List, Option, Some, None, Result, Ok, Err, slice_get}
use Rattle.mc_nbt.specs.declared.value.Value.{Value}
use Rattle.mc_cmd.specs.Form.{Text}
use Rattle.mc_cmd.specs.Pack.{ExportType, Pack, functions_of}
use Rattle.mc_together.specs.Together.{Standing, run_call}
use Rattle.mc_tick.specs.Answers.{AreOfKinds, AreOfOtherKinds}
use Rattle.pk_multi.specs.Answers.{IsCause, IsResting, export_at}
use Rattle.pk_multi.specs.State.{State, HasFailed}
use Rattle.pk_multi.specs.declared.fault.ShareRefusal.{ShareRefusal}
use Rattle.pk_multi.specs.declared.fault.ShareRefusal.TheVariants as refusals
use Rattle.pk_multi.specs.declared.fault.SharedOther.{SharedOther}
use Rattle.pk_multi.specs.declared.fault.SharedOther.TheVariants as others

-- whether these arguments are those of an export, or why not
abbrev pub IsFitting : Option ExportType → List Value → Result (Unit {0}) ShareRefusal → Type 0
IsFitting o args (Ok u) = AreOfKinds o args
IsFitting o args (Err refusals.NoProgram) = ⊥
IsFitting o args (Err refusals.NoExport) = o ≡ None
IsFitting o args (Err refusals.WrongArgs) = AreOfOtherKinds o args
IsFitting o args (Err refusals.Busy) = ⊥
IsFitting o args (Err refusals.Dead) = ⊥
IsFitting o args (Err refusals.Memory) = ⊥

-- whether a state is none in which no call starts, or which it is
abbrev pub IsFree : Option ℤ → Result (Unit {0}) ShareRefusal → Type 0
IsFree z (Ok u) = (z ≢ Some (pos 1)) × (z ≢ Some (pos 4))
IsFree z (Err refusals.NoProgram) = ⊥
IsFree z (Err refusals.NoExport) = ⊥
IsFree z (Err refusals.WrongArgs) = ⊥
IsFree z (Err refusals.Busy) = z ≡ Some (pos 1)
IsFree z (Err refusals.Dead) = z ≡ Some (pos 4)
IsFree z (Err refusals.Memory) = ⊥

-- whether a call may start, or the first cause why not
abbrev pub IsAllowed : State → ℕ → ℕ → List Value → Result (Unit {0}) ShareRefusal → Type 0
IsAllowed s who k args (Ok u) = AreOfKinds (export_at s who k) args × IsResting s who
IsAllowed s who k args (Err refusals.NoProgram) = IsCause s who k args refusals.NoProgram
IsAllowed s who k args (Err refusals.NoExport) = IsCause s who k args refusals.NoExport
IsAllowed s who k args (Err refusals.WrongArgs) = IsCause s who k args refusals.WrongArgs
IsAllowed s who k args (Err refusals.Busy) = IsCause s who k args refusals.Busy
IsAllowed s who k args (Err refusals.Dead) = IsCause s who k args refusals.Dead
IsAllowed s who k args (Err refusals.Memory) = ⊥

-- a call of the program at a place
abbrev pub call_at : List Pack → ℕ → List Value → ℕ → Standing → Standing
call_at ps k args i s = run_call (functions_of ps) k args i (slice_get ps i) s

-- a name is told; or there is no memory to tell it
abbrev pub IsToldOwn : Text → State → State → SharedOther → Type 0
IsToldOwn name s r others.NotForeign = ⊥
IsToldOwn name s r (others.Own n) = (n ≡ name) × (r ≡ s)
IsToldOwn name s r others.Memory = HasFailed s r
