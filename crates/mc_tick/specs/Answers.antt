-- What calls and commands of somebody else answer.
use Rattle.std.specs.Prelude.{◌≡◌, ◌≢◌, ℕ, List, true, false, Option, Some, None, Result, Ok, Err, map, slice_get}
use Rattle.mc_nbt.specs.Value.{kind_of}
use Rattle.mc_nbt.specs.declared.value.Value.{Value}
use Rattle.mc_cmd.specs.Command.{Cmd}
use Rattle.mc_cmd.specs.Foreign.{is_foreign, first_own}
use Rattle.mc_cmd.specs.Pack.{ExportType, IsCallOf, IsForeign, call, other}
use Rattle.mc_tick.specs.State.{State, after, IsDead}
use Rattle.mc_tick.specs.StateView.{resting_state, IsResumed}
use Rattle.mc_tick.specs.declared.resumed.Resumed.{Resumed}
use Rattle.mc_tick.specs.declared.refusal.StartRefusal.{StartRefusal}
use Rattle.mc_tick.specs.declared.refusal.StartRefusal.TheVariants as start
use Rattle.mc_tick.specs.declared.refusal.OtherRefusal.{OtherRefusal}
use Rattle.mc_tick.specs.declared.refusal.OtherRefusal.TheVariants as others

-- there is an export, and the arguments are of its kinds, or they aren't
abbrev pub AreOfKinds : Option ExportType → List Value → Type 0
AreOfKinds None args = ⊥
AreOfKinds (Some e) args = map kind_of args ≡ e.params

abbrev pub AreOfOtherKinds : Option ExportType → List Value → Type 0
AreOfOtherKinds None args = ⊥
AreOfOtherKinds (Some e) args = map kind_of args ≢ e.params

-- A call of the export at a place is one event, unless there is no export at the place, or else the arguments aren't
-- of its kinds, or else the pack is dead. A refusal gives the state back as it was. Want of memory is told only where
-- there is no such cause.
abbrev pub IsStarted : State → ℕ → List Value → Result Resumed StartRefusal → Type 0
IsStarted s k args (Ok r) =
    IsCallOf (slice_get s.pack.index.exports k) args × (¬ IsDead s) × IsResumed (after s (call k args)) r
IsStarted s k args (Err (start.NoExport r)) = (slice_get s.pack.index.exports k ≡ None) × (resting_state r ≡ s)
IsStarted s k args (Err (start.WrongArgs r)) =
    AreOfOtherKinds (slice_get s.pack.index.exports k) args × (resting_state r ≡ s)
IsStarted s k args (Err (start.Dead r)) =
    AreOfKinds (slice_get s.pack.index.exports k) args × IsDead s × (resting_state r ≡ s)
IsStarted s k args (Err start.Memory) = AreOfKinds (slice_get s.pack.index.exports k) args × (¬ IsDead s)

-- A command of somebody else is one event, unless it is none of scores or storages, or else names what is the pack's.
-- A refusal gives the state back as it was. Want of memory is told only of a command of scores or storages; it may
-- stand in the place of a name, which is told by a copy.
abbrev pub IsApplied : State → Cmd → Result Resumed OtherRefusal → Type 0
IsApplied s c (Ok r) = IsForeign s.pack.index.ns c × IsResumed (after s (other c)) r
IsApplied s c (Err (others.NotForeign r)) = (is_foreign c ≡ false) × IsResumed s r
IsApplied s c (Err (others.Own name r)) =
    (is_foreign c ≡ true) × (first_own s.pack.index.ns c ≡ Some name) × IsResumed s r
IsApplied s c (Err others.Memory) = is_foreign c ≡ true
