-- What became of a script that was played, and of its report.
use Rattle.std.specs.Prelude.{◌≡◌, Some, Result, Ok, Err}
use Rattle.io_dev.specs.Sink.{SinkState, append, AppendFailed, IsPartlyAppended}
use Rattle.app_words.specs.Report.{Cause, no_such_export, wrong_arguments, instance_is_dead}
use Rattle.app_words.specs.Report.{names, no_such_program, finished, refused, Reported}
use Rattle.app_words.specs.WhereReport.{Begun}
use Rattle.app_play.specs.declared.fault.Cause.{Cause as Told}
use Rattle.app_play.specs.declared.fault.Cause.TheVariants as told
use Rattle.app_play.specs.declared.fault.PlayFault.{PlayFault}
use Rattle.app_play.specs.declared.fault.PlayFault.TheVariants as faults

abbrev pub cause_view : Told → Cause
cause_view told.NoSuchExport = no_such_export
cause_view told.WrongArguments = wrong_arguments
cause_view told.InstanceIsDead = instance_is_dead
cause_view (told.Names name) = names name
cause_view told.NoSuchProgram = no_such_program

-- The script was played to its end, or up to the line that is refused, and its report was written. At a fault of the
-- output and at want of memory a prefix of the report was written, and a fault is told just where its count rose.
abbrev pub IsPlayed : Reported → Result (Unit {0}) PlayFault → SinkState → SinkState → Type 0
IsPlayed r (Ok u) before after = (r.end ≡ finished) × (after ≡ append before r.text)
IsPlayed r (Err (faults.Refused line cause)) before after =
    (r.end ≡ refused line (cause_view cause)) × (after ≡ append before r.text)
IsPlayed r (Err faults.Output) before after = AppendFailed before after r.text
IsPlayed r (Err faults.Memory) before after = IsPartlyAppended before after r.text

-- the same of a report of which it is told how it begins
abbrev pub IsPlayedTo : Begun → Result (Unit {0}) PlayFault → SinkState → SinkState → Type 0
IsPlayedTo r (Ok u) before after = (r.end ≡ Some finished) × (after ≡ append before r.text)
IsPlayedTo r (Err (faults.Refused line cause)) before after =
    (r.end ≡ Some (refused line (cause_view cause))) × (after ≡ append before r.text)
IsPlayedTo r (Err faults.Output) before after = AppendFailed before after r.text
IsPlayedTo r (Err faults.Memory) before after = IsPartlyAppended before after r.text

-- A script was played whose report isn't told by the pack alone: one of those that it may have was written so.
pub record IsPlayedAs (Is : Begun → Type 0) (r : Result (Unit {0}) PlayFault) (before after : SinkState) : Type 0 where
  pub report : Begun
  pub is_report : Is report
  pub played : IsPlayedTo report r before after
