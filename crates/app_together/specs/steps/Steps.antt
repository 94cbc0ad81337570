-- The parts of the play of a script over several programs, as the private functions do them.
use Rattle.std.specs.Prelude.{◌≡◌, ◌≢◌, ℕ, pos, List, [], true, false, Option, Some, Result, Ok, Err}
use Rattle.std.specs.Prelude.{option_and_then, slice_get}
use Rattle.io_dev.specs.Sink.{SinkState, append, AppendFailed, IsPartlyAppended}
use Rattle.mc_nbt.specs.declared.value.Value.{Value}
use Rattle.mc_cmd.specs.Layout.{Answer, answer}
use Rattle.mc_cmd.specs.Pack.{Pack}
use Rattle.mc_cmd.specs.Form.{Text}
use Rattle.mc_together.specs.Together.{Standing, call}
use Rattle.app_words.specs.Act.{Act}
use Rattle.app_words.specs.Report.{ActedOf, goes, stops}
use Rattle.app_play.specs.Play.{cause_view}
use Rattle.app_play.specs.steps.Playing.{IsSaid, printed}
use Rattle.app_play.specs.declared.fault.Cause.TheVariants as causes
use Rattle.app_play.specs.declared.fault.PlayFault.{PlayFault}
use Rattle.app_play.specs.declared.fault.PlayFault.TheVariants as faults
use Rattle.pk_multi.specs.Answers.{state_at}
use Rattle.pk_multi.specs.State.{State, after}

-- programs that were loaded, of which no call failed
abbrev pub IsPlaying : State → Type 0
IsPlaying s = (s.booted ≡ true) × (s.failed ≡ false)

-- the same programs, standing so
abbrev pub standing_so : State → Standing → State
standing_so s t = record s { standing = t }

-- what the program at a place answers
abbrev pub answer_at : State → ℕ → Option Answer
answer_at s who = option_and_then (λ (p : Pack). answer p.index.ns s.standing.world) (slice_get s.packs who)

-- what a line prints
abbrev pub text_of : ActedOf Standing → Text
text_of (goes t s) = t
text_of (stops c) = []

-- an event of a line, which prints nothing: it happened, or the line of this number was refused, or there was no memory
abbrev pub IsMade : State → ActedOf Standing → ℕ → Result (Unit {0}) PlayFault → State → Type 0
IsMade s (goes t z) n (Ok u) r = (t ≡ []) × (r ≡ standing_so s z)
IsMade s (stops c) n (Ok u) r = ⊥
IsMade s (goes t z) n (Err (faults.Refused line told)) r = ⊥
IsMade s (stops c) n (Err (faults.Refused line told)) r = (line ≡ n) × (cause_view told ≡ c)
IsMade s a n (Err faults.Output) r = ⊥
IsMade s a n (Err faults.Memory) r = Unit {0}

-- a line did what it does, was refused with its number and cause, or was left with a prefix of its text
abbrev pub IsStep :
    State → ActedOf Standing → ℕ → Result (Unit {0}) PlayFault → State → SinkState → SinkState → Type 0
IsStep s (goes t z) n (Ok u) r before after = (r ≡ standing_so s z) × (after ≡ append before t)
IsStep s (stops c) n (Ok u) r before after = ⊥
IsStep s (goes t z) n (Err (faults.Refused line told)) r before after = ⊥
IsStep s (stops c) n (Err (faults.Refused line told)) r before after =
    (line ≡ n) × (cause_view told ≡ c) × (after ≡ before)
IsStep s a n (Err faults.Output) r before after = AppendFailed before after (text_of a)
IsStep s a n (Err faults.Memory) r before after = IsPartlyAppended before after (text_of a)

-- a call of the export at a place, with values of its kinds, of a program that doesn't run: it happened, or the program
-- is dead, or there was no memory
abbrev pub IsBegun : State → ℕ → ℕ → List Value → ℕ → Result (Unit {0}) PlayFault → State → Type 0
IsBegun s who k vs n (Ok u) r = (state_at s who ≢ Some (pos 4)) × (r ≡ after s (call who k vs))
IsBegun s who k vs n (Err (faults.Refused line causes.InstanceIsDead)) r =
    (line ≡ n) × (state_at s who ≡ Some (pos 4))
IsBegun s who k vs n (Err faults.Memory) r = Unit {0}
IsBegun s who k vs n (Err fault) r = ⊥

-- what the program at a place shows was printed
abbrev pub IsPrinted : State → ℕ → Act → SinkState → SinkState → Result (Unit {0}) PlayFault → Type 0
IsPrinted s who a before after r =
    (p : Pack) → slice_get s.packs who ≡ Some p → IsSaid (printed p.index.ns s.standing.world a) before after r
