-- What becomes of a job: what is read first, and what is written and printed.
use Rattle.std.specs.Prelude.{◌≡◌, ◌⊎◌, ◌+◌, ℕ, List, [], ◌++◌, length, codes, false, true, Option, Some, None}
use Rattle.std.specs.Prelude.{Result, Ok, Err}
use Rattle.std.specs.Fmt.{decimal}
use Rattle.io_dev.specs.Files.{FilesState, ReadFailed}
use Rattle.io_dev.specs.Folder.{Folder, IsLonger, Reads}
use Rattle.io_dev.specs.Sink.{SinkState, append, AppendFailed, IsPartlyAppended}
use Rattle.mc_cmd.specs.Form.{Text}
use Rattle.mc_cmd.specs.Chain.{Texts}
use Rattle.mc_cmd.specs.Pack.{Pack, loaded}
use Rattle.mc_cmd.specs.Packing.{Written, is_written, pack_view}
use Rattle.mc_cmd.specs.Tidy.{Tidy}
use Rattle.app_words.specs.Act.{Act, ScriptLine}
use Rattle.app_words.specs.Lines.{ended_line}
use Rattle.app_words.specs.Report.{report}
use Rattle.app_words.specs.Script.{ScriptRead, script_read, lines, bad}
use Rattle.app_words.specs.WhereReport.{IsReport}
use Rattle.app_words.specs.WhereScript.{where_script_read}
use Rattle.app_words.specs.declared.command_line.Job.{Job}
use Rattle.app_words.specs.declared.command_line.Job.TheVariants as jobs
use Rattle.app_report.specs.Costs.{costs_text}
use Rattle.app_tell.specs.Tell.{TellsReduction}
use Rattle.app_inspect.specs.Tell.{MayTell, TellsWhere}
use Rattle.app_play.specs.Play.{IsPlayed, IsPlayedAs}
use Rattle.app_play.specs.declared.fault.PlayFault.{PlayFault}
use Rattle.pk_files.specs.Folder.{IsPackRead, IsPackWritten, IsSeen}
use Rattle.pk_files.specs.Held.{Holds, is_told}
use Rattle.pk_files.specs.Told.{Told, pack_told, same, told_of}
use Rattle.pk_files.specs.declared.fault.GetFault.{GetFault}
use Rattle.pk_files.specs.declared.fault.PutFault.{PutFault}
use Rattle.pk_agree.specs.Agree.{Agrees}
use Rattle.pk_agree.specs.Resume.{Resumable}
use Rattle.pk_agree.specs.Stepwise.{Stepwise}
use Rattle.pk_link.specs.Linked.{IsPackFor}
use Rattle.wm_ast.specs.declared.module.Module.{Module}
use Rattle.app_top.specs.Outside.{Outside}
use Rattle.app_top.specs.Refusal.{of_get, of_play, of_put}
use Rattle.app_top.specs.Source.{HasModule, IsNotDecoded, IsNotInProfile, IsNotValid}
use Rattle.app_top.specs.declared.refusal.Refusal.{Refusal}
use Rattle.app_top.specs.declared.refusal.Refusal.TheVariants as refusals

-- how a run ends: all was done, or it was refused
abbrev pub End : Type 0
End = Result (Unit {0}) Refusal

-- ---- what is read first

-- the most bytes that a module or a script may have
abbrev pub file_cap : ℕ
file_cap = 1048576

-- The file of a job's module, and that of its script, where it has one. What `gen`, `join` and `multi` do is told apart
-- from the other jobs.
abbrev pub module_of : Job → Option Text
module_of (jobs.Compile file dir ns) = Some file
module_of (jobs.Costs file dir ns) = Some file
module_of (jobs.Run dir script) = None
module_of (jobs.Exec file dir ns script) = Some file
module_of (jobs.Gen number size file dir) = None
module_of (jobs.Join file dir ns script libraries) = None
module_of (jobs.Multi script dirs) = None
module_of (jobs.Inspect file dir ns script) = Some file

abbrev pub script_of : Job → Option Text
script_of (jobs.Compile file dir ns) = None
script_of (jobs.Costs file dir ns) = None
script_of (jobs.Run dir script) = Some script
script_of (jobs.Exec file dir ns script) = Some script
script_of (jobs.Gen number size file dir) = None
script_of (jobs.Join file dir ns script libraries) = None
script_of (jobs.Multi script dirs) = None
script_of (jobs.Inspect file dir ns script) = Some script

-- what a script of a job says; that of `inspect` may ask where the program is
abbrev pub said_of : Job → Text → ScriptRead Act
said_of (jobs.Inspect file dir ns script) = where_script_read
said_of job = script_read

-- what was read of a file that isn't too long; and nothing, where there is none to be read
abbrev pub IsInput : Option Folder → Option Text → Text → Type 0
IsInput content None bytes = bytes ≡ []
IsInput content (Some path) bytes = Reads content path file_cap bytes

-- what was read of a job's module and of its script
pub record HasInputs (job : Job) (content : Option Folder) : Type 0 where
  pub wasm : Text
  pub script : Text
  pub reads_wasm : IsInput content (module_of job) wasm
  pub reads_script : IsInput content (script_of job) script

-- the path whose turn it is to be read: that of the module, or that of the script once the module was read
abbrev pub IsNextInput : Job → Option Folder → Text → Type 0
IsNextInput job content path =
    (module_of job ≡ Some path)
    ⊎ ((script_of job ≡ Some path) × ((wasm : Text) × IsInput content (module_of job) wasm))

-- each line of the text is a script line; the empty text has none
abbrev pub IsScript : Text → Type 0
IsScript text = (ls : List ScriptLine) × (script_read text ≡ lines ls)

-- the same of the script of a job
abbrev pub IsScriptOf : Job → Text → Type 0
IsScriptOf job text = (ls : List ScriptLine) × (said_of job text ≡ lines ls)

-- the job has a module, and what was to be read was read; the script is one
pub record HasSource (job : Job) (content : Option Folder) : Type 0 where
  pub path : Text
  pub has_module : module_of job ≡ Some path
  pub inputs : HasInputs job content
  pub is_script : IsScriptOf job inputs.script

-- A job was refused before anything was written or played, in this order: the file of the module could not be read or
-- is too long, or that of the script; the script has a line that is no script line; the module's bytes spell no module,
-- or one that isn't in the profile, or one that isn't valid. Or there was no memory. But for the count of a read that
-- failed nothing has changed.
abbrev pub IsRefusedFirst : Job → Outside → Outside → Refusal → Type 0
IsRefusedFirst job before after (refusals.CannotRead p) =
    IsNextInput job before.files.content p × ReadFailed before.files after.files p × (after.out ≡ before.out)
IsRefusedFirst job before after (refusals.TooLong p c) =
    IsNextInput job before.files.content p
    × (c ≡ file_cap)
    × IsLonger before.files.content p c
    × (after ≡ before)
IsRefusedFirst job before after (refusals.Script n low) =
    (i : HasInputs job before.files.content) × (said_of job i.script ≡ bad n low) × (after ≡ before)
IsRefusedFirst job before after (refusals.NotDecoded fault) =
    (s : HasSource job before.files.content) × IsNotDecoded s.inputs.wasm fault × (after ≡ before)
IsRefusedFirst job before after (refusals.NotInProfile fault) =
    (s : HasSource job before.files.content) × IsNotInProfile s.inputs.wasm fault × (after ≡ before)
IsRefusedFirst job before after (refusals.NotValid fault) =
    (s : HasSource job before.files.content) × IsNotValid s.inputs.wasm fault × (after ≡ before)
IsRefusedFirst job before after refusals.Memory = after ≡ before
IsRefusedFirst job before after refusal = ⊥

abbrev pub IsFirst : Job → Outside → Outside → End → Type 0
IsFirst job before after (Err refusal) = IsRefusedFirst job before after refusal
IsFirst job before after (Ok u) = ⊥

-- ---- a pack written

-- the module of a job, and the lines of its script
pub record HasJob (job : Job) (content : Option Folder) (m : Module) (ls : List ScriptLine) : Type 0 where
  pub inputs : HasInputs job content
  pub has_module : HasModule inputs.wasm m
  pub is_script : said_of job inputs.script ≡ lines ls

-- each line of a pack names only what is the pack's
abbrev pub IsTidy : Pack → Type 0
IsTidy pack = (name : Text) (ls : Texts) → pack.functions name ≡ Some ls → Tidy pack.index.ns ls

-- As far as its files are told, the folder holds the pack that was written into it: a pack that agrees with the module
-- over every schedule and piece after piece, can be resumed, and is tidy.
abbrev pub HoldsPackOf : Option Folder → Text → Module → Written → Type 0
HoldsPackOf None dir m pack = Unit {0}
HoldsPackOf (Some folder) dir m pack =
    (t : Told)
    × Holds (Some folder) dir t
    × same (told_of pack) t
    × Agrees m (pack_told t)
    × Stepwise m (pack_told t)
    × Resumable m (pack_told t)
    × IsTidy (pack_told t)

-- the pack was written into the folder, which was empty, and the folder holds a pack of the module
pub record IsDelivered (before after : FilesState) (dir : Text) (m : Module) (pack : Written)
    : Type 0 where
  pub written : IsPackWritten before after dir pack (Ok tt)
  pub holds : HoldsPackOf after.content dir m pack

-- the pack wasn't written whole, for this fault
abbrev pub IsUndelivered : Outside → Outside → Text → Written → End → Type 0
IsUndelivered before after dir pack r =
    (fault : PutFault)
    × IsPackWritten before.files after.files dir pack (Err fault)
    × (after.out ≡ before.out)
    × (r ≡ Err (of_put fault))

-- a text was written to the output; or the output failed, or there was no memory, and it has a prefix of the text
abbrev pub IsSaid : Text → SinkState → SinkState → End → Type 0
IsSaid text before after (Ok u) = after ≡ append before text
IsSaid text before after (Err refusals.Output) = AppendFailed before after text
IsSaid text before after (Err refusals.Memory) = IsPartlyAppended before after text
IsSaid text before after (Err refusal) = ⊥

-- the number of files of a pack: those of its functions, of two tags, of the index, and `pack.mcmeta`
abbrev pub files_line : Written → Text
files_line pack = codes "files " ++ ended_line (decimal (length pack.functions + 4))

-- ---- a pack read and played

-- the end of a run that played a script
abbrev pub end_of_play : Result (Unit {0}) PlayFault → End
end_of_play (Ok u) = Ok u
end_of_play (Err fault) = Err (of_play fault)

-- the pack that the folder says was read, and the script was played over it, to its end or as far as it came
pub record IsReported (before after : Outside) (dir : Text) (ls : List ScriptLine) (r : End) : Type 0 where
  pub pack : Written
  pub read : IsPackRead before.files after.files dir (Ok pack)
  pub end : Result (Unit {0}) PlayFault
  pub played : IsPlayed (report (pack_view pack) ls (loaded (pack_view pack))) end before.out after.out
  pub is_end : r ≡ end_of_play end

-- the same of a script that may ask where the program of a module is
pub record IsInspected (before after : Outside) (dir : Text) (m : Module) (ls : List ScriptLine) (r : End)
    : Type 0 where
  pub pack : Written
  pub read : IsPackRead before.files after.files dir (Ok pack)
  pub end : Result (Unit {0}) PlayFault
  pub played : IsPlayedAs (IsReport (MayTell m) (pack_view pack) ls (loaded (pack_view pack))) end before.out after.out
  pub is_end : r ≡ end_of_play end

-- the folder's files say no pack, or couldn't be read, for this fault
abbrev pub IsUnread : Outside → Outside → Text → GetFault → End → Type 0
IsUnread before after dir fault r =
    IsPackRead before.files after.files dir (Err fault)
    × (after.out ≡ before.out)
    × (r ≡ Err (of_get fault))

-- ---- the jobs

-- DIR wasn't seen to be empty, for this fault
abbrev pub IsUnseen : Outside → Outside → Text → End → Type 0
IsUnseen before after dir r =
    (fault : PutFault)
    × IsSeen before.files after.files dir (Err fault)
    × (after.out ≡ before.out)
    × (r ≡ Err (of_put fault))

-- the pack was written, and this was told of it; or not, for the first cause
abbrev pub IsTellingEnd : Text → Text → Module → Written → Outside → Outside → End → Type 0
IsTellingEnd text dir m pack before after r =
    IsUndelivered before after dir pack r
    ⊎ (IsDelivered before.files after.files dir m pack × IsSaid text before.out after.out r)

-- `compile` tells the number of its files
abbrev pub IsCompileEnd : Text → Module → Written → Outside → Outside → End → Type 0
IsCompileEnd dir m pack before after r = IsTellingEnd (files_line pack) dir m pack before after r

-- `costs` tells what the pieces of each function of the module weigh, and those that are no function's
abbrev pub IsCostsEnd : Text → Module → Written → Outside → Outside → End → Type 0
IsCostsEnd dir m pack before after r = IsTellingEnd (costs_text pack (length m.funcs)) dir m pack before after r

-- a fault of reading that isn't told by what the files hold, as far as that is told
abbrev pub IsUntold : Option Folder → GetFault → Type 0
IsUntold None fault = Unit {0}
IsUntold (Some folder) fault = is_told fault ≡ false

-- The pack that was just written couldn't be read back. Where the files' content is told, a listing or a read failed,
-- or there was no memory.
abbrev pub IsUnreadAgain : Outside → Outside → Text → End → Type 0
IsUnreadAgain before after dir r =
    (fault : GetFault)
    × IsUnread before after dir fault r
    × IsUntold before.files.content fault

-- the pack that was read is the one that was written; where the files tell their content this is so
abbrev pub IsGivenBack : Option Folder → Written → Written → Type 0
IsGivenBack None pack read = same (told_of pack) (told_of read)
IsGivenBack (Some folder) pack read = Unit {0}

-- The pack was read back, and the script was played over it. Where the files tell their content, or give back what was
-- written, each line that was printed tells what the reduction of the module gives.
pub record IsReportedOf (before after : Outside) (dir : Text) (m : Module) (pack : Written) (ls : List ScriptLine)
    (r : End) : Type 0 where
  pub reported : IsReported before after dir ls r
  pub tells : IsGivenBack before.files.content pack reported.pack
      → TellsReduction m (pack_view reported.pack) ls
      (report (pack_view reported.pack) ls (loaded (pack_view reported.pack)))

-- `exec`: the pack was written, read back and played; or not, for the first cause
pub record IsPlayedBack (before after : Outside) (dir : Text) (m : Module) (pack : Written)
    (ls : List ScriptLine) (r : End) : Type 0 where
  pub between : Outside
  pub delivered : IsDelivered before.files between.files dir m pack
  pub same_out : between.out ≡ before.out
  pub ends : IsUnreadAgain between after dir r ⊎ IsReportedOf between after dir m pack ls r

abbrev pub IsExecEnd : Text → Module → Written → List ScriptLine → Outside → Outside → End → Type 0
IsExecEnd dir m pack ls before after r =
    IsUndelivered before after dir pack r ⊎ IsPlayedBack before after dir m pack ls r

-- The same of a script that may ask where the program is: each line that was printed tells what the reduction gives, and
-- each that tells where the program is what the reduction shows after a number of steps.
pub record IsInspectedOf (before after : Outside) (dir : Text) (m : Module) (pack : Written) (ls : List ScriptLine)
    (r : End) : Type 0 where
  pub inspected : IsInspected before after dir m ls r
  pub tells : IsGivenBack before.files.content pack inspected.pack
      → TellsWhere m (pack_view inspected.pack) ls inspected.played.report

-- `inspect`: the pack was written, read back and played; or not, for the first cause
pub record IsInspectedBack (before after : Outside) (dir : Text) (m : Module) (pack : Written)
    (ls : List ScriptLine) (r : End) : Type 0 where
  pub between : Outside
  pub delivered : IsDelivered before.files between.files dir m pack
  pub same_out : between.out ≡ before.out
  pub ends : IsUnreadAgain between after dir r ⊎ IsInspectedOf between after dir m pack ls r

abbrev pub IsInspectEnd : Text → Module → Written → List ScriptLine → Outside → Outside → End → Type 0
IsInspectEnd dir m pack ls before after r =
    IsUndelivered before after dir pack r ⊎ IsInspectedBack before after dir m pack ls r

-- a pack for the module of a job: each of its functions has a name of its own, and there are not too many
pub record IsLinkedFor (ns : Text) (m : Module) (pack : Written) : Type 0 where
  pub is_pack : IsPackFor ns m pack
  pub written : is_written pack ≡ true

-- `run`: the pack that the folder says was read and played; or not, for the first cause
abbrev pub IsRunEnd : Job → Text → Outside → Outside → End → Type 0
IsRunEnd job dir before after r =
    (i : HasInputs job before.files.content)
    × (ls : List ScriptLine)
    × (script_read i.script ≡ lines ls)
    × (((fault : GetFault) × IsUnread before after dir fault r) ⊎ IsReported before after dir ls r)

-- what became of a job other than `gen`, `join` and `multi` once its files were accepted
abbrev pub IsDone : Job → Outside → Outside → End → Type 0
IsDone (jobs.Compile file dir ns) before after r =
    (m : Module) × (ls : List ScriptLine)
    × HasJob (jobs.Compile file dir ns) before.files.content m ls
    × (IsUnseen before after dir r
    ⊎ ((pack : Written) × IsLinkedFor ns m pack × IsCompileEnd dir m pack before after r))
IsDone (jobs.Costs file dir ns) before after r =
    (m : Module) × (ls : List ScriptLine)
    × HasJob (jobs.Costs file dir ns) before.files.content m ls
    × (IsUnseen before after dir r
    ⊎ ((pack : Written) × IsLinkedFor ns m pack × IsCostsEnd dir m pack before after r))
IsDone (jobs.Run dir script) before after r = IsRunEnd (jobs.Run dir script) dir before after r
IsDone (jobs.Exec file dir ns script) before after r =
    (m : Module) × (ls : List ScriptLine)
    × HasJob (jobs.Exec file dir ns script) before.files.content m ls
    × (IsUnseen before after dir r
    ⊎ ((pack : Written) × IsLinkedFor ns m pack × IsExecEnd dir m pack ls before after r))
IsDone (jobs.Inspect file dir ns script) before after r =
    (m : Module) × (ls : List ScriptLine)
    × HasJob (jobs.Inspect file dir ns script) before.files.content m ls
    × (IsUnseen before after dir r
    ⊎ ((pack : Written) × IsLinkedFor ns m pack × IsInspectEnd dir m pack ls before after r))
IsDone (jobs.Gen number size file dir) before after r = ⊥
IsDone (jobs.Join file dir ns script libraries) before after r = ⊥
IsDone (jobs.Multi script dirs) before after r = ⊥
