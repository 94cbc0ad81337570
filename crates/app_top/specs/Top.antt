-- What a run of the program does, from the words of the command line on.
use Rattle.std.specs.Prelude.{◌≡◌, ◌⊎◌, ℕ, List, take, Ok, Err}
use Rattle.io_dev.specs.Sink.{SinkState, append, AppendFailed}
use Rattle.mc_cmd.specs.Form.{Text}
use Rattle.app_words.specs.Words.{ReadsWords}
use Rattle.app_words.specs.declared.command_line.Job.{Job}
use Rattle.app_words.specs.declared.command_line.Job.TheVariants as jobs
use Rattle.app_words.specs.declared.command_line.WordsFault.TheVariants as words
use Rattle.app_top.specs.Outside.{Outside}
use Rattle.app_top.specs.Refusal.{line_of, status_of}
use Rattle.app_top.specs.declared.refusal.Refusal.TheVariants as refusals
use Rattle.app_top.specs.declared.refusal.Status.{Status}
use Rattle.app_top.specs.declared.refusal.Status.TheVariants as status
use Rattle.app_top.specs.Jobs.{End, IsFirst, IsDone}
use Rattle.app_top.specs.Joining.{IsJoinAnswered}
use Rattle.app_top.specs.Sharing.{IsSharedAnswered}
use Rattle.app_top.specs.Workload.{IsWorkloadAnswered}

-- the words are in no form, and nothing happened
abbrev pub IsUsage : List Text → Outside → Outside → End → Type 0
IsUsage ws before after (Err refusals.Usage) = ReadsWords ws (Err words.Usage) × (after ≡ before)
IsUsage ws before after r = ⊥

-- there was no memory for the words, and nothing happened
abbrev pub IsWordless : Outside → Outside → End → Type 0
IsWordless before after (Err refusals.Memory) = after ≡ before
IsWordless before after r = ⊥

-- the job was refused first, or done as far as it came
abbrev pub IsAnsweredJob : Job → Outside → Outside → End → Type 0
IsAnsweredJob (jobs.Gen number size file dir) before after r = IsWorkloadAnswered number size file dir before after r
IsAnsweredJob (jobs.Join file dir ns script libraries) before after r =
    IsJoinAnswered file dir ns script libraries before after r
IsAnsweredJob (jobs.Multi script dirs) before after r = IsSharedAnswered script dirs before after r
IsAnsweredJob job before after r = IsFirst job before after r ⊎ IsDone job before after r

-- the words name a job, and this became of it
pub record IsAnswered (ws : List Text) (before after : Outside) (r : End) : Type 0 where
  pub job : Job
  pub is_job : ReadsWords ws (Ok job)
  pub answered : IsAnsweredJob job before after r

-- how a run ended
abbrev pub Ends : List Text → Outside → Outside → End → Type 0
Ends ws before after r = IsUsage ws before after r ⊎ (IsWordless before after r ⊎ IsAnswered ws before after r)

-- a line was told: whole, or a prefix of it where the count of faults rose
abbrev pub IsTold : Text → SinkState → SinkState → Type 0
IsTold line before after = (after ≡ append before line) ⊎ AppendFailed before after line

-- a prefix of a line was told
abbrev pub IsPartlyTold : Text → SinkState → SinkState → Type 0
IsPartlyTold line before after = (n : ℕ) × (after.written ≡ (append before (take n line)).written)

-- What was told of an end, and the status of the run: nothing where all was done, and else the line of its cause. Where
-- there was no memory for that, a prefix of this line or of that of want of memory was told, whose status it then is.
abbrev pub Tells : End → SinkState → SinkState → Status → Type 0
Tells (Ok u) before after s = (s ≡ status.Done) × (after ≡ before)
Tells (Err refusal) before after s =
    ((s ≡ status_of refusal) × IsTold (line_of refusal) before after)
    ⊎ ((s ≡ status.Memory)
    × (IsPartlyTold (line_of refusal) before after ⊎ IsPartlyTold (line_of refusals.Memory) before after))

-- a run: how it ended, and what was told of it with which status
pub record IsRun (ws : List Text) (before after : Outside) (told_before told_after : SinkState) (s : Status)
    : Type 0 where
  pub r : End
  pub ends : Ends ws before after r
  pub tells : Tells r told_before told_after s
