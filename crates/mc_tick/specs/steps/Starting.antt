-- Whether a call may start.
use Rattle.std.specs.Prelude.{◌≡◌, ℕ, List, Option, Some, None, slice_get}
use Rattle.mc_nbt.specs.declared.value.Value.{Value}
use Rattle.mc_tick.specs.Answers.{AreOfKinds, AreOfOtherKinds}
use Rattle.mc_tick.specs.State.{State, IsDead}
use Rattle.mc_tick.specs.declared.play.Cause.{Cause}
use Rattle.mc_tick.specs.declared.play.Cause.TheVariants as causes

-- the first cause for which a call isn't started, if there is one
abbrev pub IsCause : State → ℕ → List Value → Option Cause → Type 0
IsCause s k args None = AreOfKinds (slice_get s.pack.index.exports k) args × ¬ IsDead s
IsCause s k args (Some causes.NoExport) = slice_get s.pack.index.exports k ≡ None
IsCause s k args (Some causes.WrongArgs) = AreOfOtherKinds (slice_get s.pack.index.exports k) args
IsCause s k args (Some causes.Dead) = AreOfKinds (slice_get s.pack.index.exports k) args × IsDead s
