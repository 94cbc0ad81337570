-- What calls and commands of somebody else answer.
use Rattle.std.specs.Prelude.{◌≡◌, ◌≢◌, ◌<◌, ◌≤◌, ℕ, ℤ, pos, List, length, true, false, Option, Some, None}
use Rattle.std.specs.Prelude.{Result, Ok, Err, slice_get, option_and_then}
use Rattle.mc_nbt.specs.declared.value.Value.{Value}
use Rattle.mc_cmd.specs.Command.{Cmd}
use Rattle.mc_cmd.specs.Foreign.{is_foreign}
use Rattle.mc_cmd.specs.Pack.{ExportType, IsCallOf, IsForeign, Pack}
use Rattle.mc_layout.specs.State.{state_in}
use Rattle.mc_tick.specs.Answers.{AreOfKinds, AreOfOtherKinds}
use Rattle.mc_together.specs.Together.{call, other}
use Rattle.pk_multi.specs.Own.{first_own_of}
use Rattle.pk_multi.specs.State.{State, HasFailed, after}
use Rattle.pk_multi.specs.declared.fault.ShareRefusal.{ShareRefusal}
use Rattle.pk_multi.specs.declared.fault.ShareRefusal.TheVariants as refusals
use Rattle.pk_multi.specs.declared.fault.SharedOther.{SharedOther}
use Rattle.pk_multi.specs.declared.fault.SharedOther.TheVariants as others

-- ---- calls

-- the export at a place of the program at a place
abbrev pub export_at : State → ℕ → ℕ → Option ExportType
export_at s who k = option_and_then (λ p. slice_get p.index.exports k) (slice_get s.packs who)

-- the number of the state of the program at a place: 1 while it runs, 4 where its start function trapped
abbrev pub state_at : State → ℕ → Option ℤ
state_at s who = option_and_then (λ p. state_in p.index.ns s.standing.world) (slice_get s.packs who)

-- the program at a place neither runs nor is dead
abbrev pub IsResting : State → ℕ → Type 0
IsResting s who = (state_at s who ≢ Some (pos 1)) × (state_at s who ≢ Some (pos 4))

-- why a call isn't started, of programs of which no call failed before
abbrev pub IsCause : State → ℕ → ℕ → List Value → ShareRefusal → Type 0
IsCause s who k args refusals.NoProgram = length s.packs ≤ who
IsCause s who k args refusals.NoExport = (who < length s.packs) × (export_at s who k ≡ None)
IsCause s who k args refusals.WrongArgs = AreOfOtherKinds (export_at s who k) args
IsCause s who k args refusals.Busy = AreOfKinds (export_at s who k) args × (state_at s who ≡ Some (pos 1))
IsCause s who k args refusals.Dead = AreOfKinds (export_at s who k) args × (state_at s who ≡ Some (pos 4))
IsCause s who k args refusals.Memory = AreOfKinds (export_at s who k) args × IsResting s who

-- a call is refused for a cause, and the state is as it was
abbrev pub IsRefusedFor : State → ℕ → ℕ → List Value → State → ShareRefusal → Type 0
IsRefusedFor s who k args r e = (s.failed ≡ false) × IsCause s who k args e × (r ≡ s)

-- what a call leaves that isn't done: all but want of memory leave the state as it was
abbrev pub IsCallLeft : State → ℕ → ℕ → List Value → State → ShareRefusal → Type 0
IsCallLeft s who k args r refusals.NoProgram = IsRefusedFor s who k args r refusals.NoProgram
IsCallLeft s who k args r refusals.NoExport = IsRefusedFor s who k args r refusals.NoExport
IsCallLeft s who k args r refusals.WrongArgs = IsRefusedFor s who k args r refusals.WrongArgs
IsCallLeft s who k args r refusals.Busy = IsRefusedFor s who k args r refusals.Busy
IsCallLeft s who k args r refusals.Dead = IsRefusedFor s who k args r refusals.Dead
IsCallLeft s who k args r refusals.Memory = HasFailed s r × (s.failed ≡ false → IsCause s who k args refusals.Memory)

-- A call is one event, unless there is no such program, or else no such export, or else the arguments aren't of its
-- kinds, or else the program runs, or else it is dead. Want of memory is told where there is no such cause, and of
-- programs of which a call failed before.
abbrev pub IsCalled : State → ℕ → ℕ → List Value → State → Result (Unit {0}) ShareRefusal → Type 0
IsCalled s who k args r (Ok u) =
    (s.failed ≡ false) × IsCallOf (export_at s who k) args × IsResting s who × (r ≡ after s (call who k args))
IsCalled s who k args r (Err e) = IsCallLeft s who k args r e

-- ---- commands of somebody else

-- a command of somebody else for each pack
abbrev pub IsForeignToAll : List Pack → Cmd → Type 0
IsForeignToAll ps c = (i : ℕ) (p : Pack) → slice_get ps i ≡ Some p → IsForeign p.index.ns c

-- what a command leaves that isn't done
abbrev pub IsOtherLeft : State → Cmd → State → SharedOther → Type 0
IsOtherLeft s c r others.NotForeign = (s.failed ≡ false) × (is_foreign c ≡ false) × (r ≡ s)
IsOtherLeft s c r (others.Own name) =
    (s.failed ≡ false) × (is_foreign c ≡ true) × (first_own_of s.packs c ≡ Some name) × (r ≡ s)
IsOtherLeft s c r others.Memory = HasFailed s r × (s.failed ≡ false → is_foreign c ≡ true)

-- A command of somebody else is one event, unless it is none of scores or storages, or else names what is any pack's.
-- Want of memory is told of a command of scores or storages, and of programs of which a call failed before; it may
-- stand in the place of a name, which is told by a copy.
abbrev pub IsApplied : State → Cmd → State → Result (Unit {0}) SharedOther → Type 0
IsApplied s c r (Ok u) =
    (s.failed ≡ false) × (first_own_of s.packs c ≡ None) × IsForeignToAll s.packs c × (r ≡ after s (other c))
IsApplied s c r (Err e) = IsOtherLeft s c r e
