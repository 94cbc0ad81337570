-- The parts of a run, as the private functions of the program do them.
use Rattle.std.specs.Prelude.{◌≡◌, ◌⊎◌, ℕ, List, map, Bool, true, false, Option, Some, Result, Ok, Err}
use Rattle.std.specs.declared.vec.Vec.{Vec}
use Rattle.std.specs.declared.alloc.Global.{Global}
use Rattle.io_dev.specs.Files.{FilesState, ReadFailed}
use Rattle.io_dev.specs.Folder.{IsLonger, Reads}
use Rattle.mc_cmd.specs.Form.{Text}
use Rattle.mc_cmd.specs.Packing.{Written, is_written}
use Rattle.wm_ast.specs.declared.module.Module.{Module}
use Rattle.wm_ast.specs.Profile.{InProfile}
use Rattle.wm_profile.specs.Cause.{first_fault}
use Rattle.wm_valid.specs.declared.typed.Typed.{Typed}
use Rattle.wm_valid.specs.Height.{Low}
use Rattle.wm_valid.specs.Valid.{Valid}
use Rattle.wm_flat.specs.Program.{IsProgram}
use Rattle.app_words.specs.Act.{Act, ScriptLine}
use Rattle.app_words.specs.Script.{ScriptRead, script_read, lines, bad}
use Rattle.app_words.specs.View.{line_view}
use Rattle.app_words.specs.WhereScript.{where_script_read}
use Rattle.app_words.specs.declared.act.ScriptLine as read
use Rattle.app_words.specs.declared.command_line.Job.{Job}
use Rattle.app_words.specs.declared.command_line.Job.TheVariants as jobs
use Rattle.pk_files.specs.declared.fault.GetFault.{GetFault}
use Rattle.pk_link.specs.Linked.{IsPackFor}
use Rattle.app_top.specs.declared.inputs.Inputs.{Inputs}
use Rattle.app_top.specs.declared.refusal.Refusal.{Refusal}
use Rattle.app_top.specs.declared.refusal.Refusal.TheVariants as refusals
use Rattle.app_top.specs.Outside.{Outside}
use Rattle.app_top.specs.Source.{HasModule, IsInvalid, IsNotDecoded, IsNotInProfile, IsNotValid}
use Rattle.app_top.specs.Jobs.{End, IsCompileEnd, IsCostsEnd, IsExecEnd, IsInput, IsInspectEnd, IsInspected, IsNextInput}
use Rattle.app_top.specs.Jobs.{IsReported, IsUnread, IsUnseen, file_cap, module_of, script_of}

-- a file was read, or refused; a fault is told just where its count rose
abbrev pub IsReadWithin : FilesState → FilesState → Text → ℕ → Result Text Refusal → Type 0
IsReadWithin before after path cap (Ok bytes) = (after ≡ before) × Reads before.content path cap bytes
IsReadWithin before after path cap (Err (refusals.CannotRead p)) = (p ≡ path) × ReadFailed before after path
IsReadWithin before after path cap (Err (refusals.TooLong p c)) =
    (p ≡ path) × (c ≡ cap) × (after ≡ before) × IsLonger before.content path cap
IsReadWithin before after path cap (Err refusals.Memory) = after ≡ before
IsReadWithin before after path cap (Err refusal) = ⊥

-- the file at a path, where there is one to be read, was read, or refused
abbrev pub IsInputRead : FilesState → FilesState → Option Text → Result Text Refusal → Type 0
IsInputRead before after o (Ok bytes) = (after ≡ before) × IsInput before.content o bytes
IsInputRead before after o (Err (refusals.CannotRead p)) = (o ≡ Some p) × ReadFailed before after p
IsInputRead before after o (Err (refusals.TooLong p c)) =
    (o ≡ Some p) × (c ≡ file_cap) × (after ≡ before) × IsLonger before.content p c
IsInputRead before after o (Err refusals.Memory) = after ≡ before
IsInputRead before after o (Err refusal) = ⊥

-- the files of a job were read, or one was refused
abbrev pub AreInputsRead : Job → FilesState → FilesState → Result Inputs Refusal → Type 0
AreInputsRead job before after (Ok i) =
    (after ≡ before)
    × IsInput before.content (module_of job) i.wasm
    × IsInput before.content (script_of job) i.script
AreInputsRead job before after (Err (refusals.CannotRead p)) =
    IsNextInput job before.content p × ReadFailed before after p
AreInputsRead job before after (Err (refusals.TooLong p c)) =
    IsNextInput job before.content p × (c ≡ file_cap) × (after ≡ before) × IsLonger before.content p c
AreInputsRead job before after (Err refusals.Memory) = after ≡ before
AreInputsRead job before after (Err refusal) = ⊥

-- the lines of a script that says this were read, or it has one that is none
abbrev pub AreLinesRead : ScriptRead Act → Result (Vec read.ScriptLine Global) Refusal → Type 0
AreLinesRead said (Ok v) = said ≡ lines (map line_view v.items)
AreLinesRead said (Err (refusals.Script n low)) = said ≡ bad n low
AreLinesRead said (Err refusals.Memory) = Unit {0}
AreLinesRead said (Err refusal) = ⊥

-- the job is of one module, or of the pack of one
abbrev pub is_plain : Job → Bool
is_plain (jobs.Gen number size file dir) = false
is_plain (jobs.Join file dir ns script libraries) = false
is_plain (jobs.Multi script dirs) = false
is_plain job = true

-- what is said of a module of the profile
abbrev pub IsAccepted : Module → Result Typed Refusal → Type 0
IsAccepted m (Ok t) = Valid m × Low m
IsAccepted m (Err (refusals.NotValid fault)) = IsInvalid fault m
IsAccepted m (Err refusals.Memory) = Unit {0}
IsAccepted m (Err refusal) = ⊥

-- what is said of any module
abbrev pub IsTaken : Module → Result Typed Refusal → Type 0
IsTaken m (Ok t) = InProfile m × Valid m × Low m
IsTaken m (Err (refusals.NotInProfile fault)) = first_fault m ≡ Some fault
IsTaken m (Err (refusals.NotValid fault)) = InProfile m × IsInvalid fault m
IsTaken m (Err refusals.Memory) = Unit {0}
IsTaken m (Err refusal) = ⊥

-- a pack for a module's bytes
pub record IsPackOfBytes (bytes ns : Text) (pack : Written) : Type 0 where
  pub source : Module
  pub has_module : HasModule bytes source
  pub is_pack : IsPackFor ns source pack

-- the bytes spell no module that is taken, for this reason, or there was no memory
abbrev pub IsSourceRefused : Text → Refusal → Type 0
IsSourceRefused bytes (refusals.NotDecoded fault) = IsNotDecoded bytes fault
IsSourceRefused bytes (refusals.NotInProfile fault) = IsNotInProfile bytes fault
IsSourceRefused bytes (refusals.NotValid fault) = IsNotValid bytes fault
IsSourceRefused bytes refusals.Memory = Unit {0}
IsSourceRefused bytes refusal = ⊥

-- the bytes spell this module, or it was refused
abbrev pub IsSourceTaken : Text → Result Typed Refusal → Type 0
IsSourceTaken bytes (Ok m) = HasModule bytes m
IsSourceTaken bytes (Err refusal) = IsSourceRefused bytes refusal

-- the pack of a folder was read and played, or wasn't
abbrev pub IsFolderPlayed : Outside → Outside → Text → List ScriptLine → End → Type 0
IsFolderPlayed before after dir ls r =
    ((fault : GetFault) × IsUnread before after dir fault r) ⊎ IsReported before after dir ls r

-- A pack was written, read back and played, or not: for a module for which it is a pack, and the lines of a script.
abbrev pub IsPackPlayed : Outside → Outside → Text → Written → List ScriptLine → End → Type 0
IsPackPlayed before after dir pack ls r =
    (ns script : Text) (m : Module) → is_written pack ≡ true → IsPackFor ns m pack → script_read script ≡ lines ls
    → IsExecEnd dir m pack ls before after r

-- the module was linked, and its pack was written and told, or not
pub record IsCompiledFor (before after : Outside) (bytes dir ns : Text) (r : End) : Type 0 where
  pub pack : Written
  pub is_pack : IsPackOfBytes bytes ns pack
  pub written : is_written pack ≡ true
  pub ends : IsCompileEnd dir is_pack.source pack before after r

abbrev pub IsUnlinked : Outside → Outside → Text → Text → End → Type 0
IsUnlinked before after bytes ns (Ok u) = ⊥
IsUnlinked before after bytes ns (Err refusal) = IsSourceRefused bytes refusal × (after ≡ before)

-- the bytes spell this module, and DIR wasn't seen to be empty
pub record IsUnseenFor (before after : Outside) (bytes dir : Text) (r : End) : Type 0 where
  pub source : Module
  pub has_module : HasModule bytes source
  pub ends : IsUnseen before after dir r

abbrev pub IsModuleCompiled : Outside → Outside → Text → Text → Text → End → Type 0
IsModuleCompiled before after bytes dir ns r =
    IsUnlinked before after bytes ns r
    ⊎ (IsUnseenFor before after bytes dir r ⊎ IsCompiledFor before after bytes dir ns r)

-- the same where it was told what the pieces weigh
pub record IsCostedFor (before after : Outside) (bytes dir ns : Text) (r : End) : Type 0 where
  pub pack : Written
  pub is_pack : IsPackOfBytes bytes ns pack
  pub written : is_written pack ≡ true
  pub ends : IsCostsEnd dir is_pack.source pack before after r

abbrev pub IsModuleCosted : Outside → Outside → Text → Text → Text → End → Type 0
IsModuleCosted before after bytes dir ns r =
    IsUnlinked before after bytes ns r
    ⊎ (IsUnseenFor before after bytes dir r ⊎ IsCostedFor before after bytes dir ns r)

-- The module was linked, and its pack was written, read back and played, or not. The lines are those of a script.
pub record IsExecutedFor (before after : Outside) (bytes dir ns : Text) (ls : List ScriptLine) (r : End)
    : Type 0 where
  pub pack : Written
  pub is_pack : IsPackOfBytes bytes ns pack
  pub written : is_written pack ≡ true
  pub ends : (script : Text) → script_read script ≡ lines ls → IsExecEnd dir is_pack.source pack ls before after r

abbrev pub IsModuleExecuted : Outside → Outside → Text → Text → Text → List ScriptLine → End → Type 0
IsModuleExecuted before after bytes dir ns ls r =
    IsUnlinked before after bytes ns r
    ⊎ (IsUnseenFor before after bytes dir r ⊎ IsExecutedFor before after bytes dir ns ls r)

-- the same of a script that may ask where the program is: the pack of a folder was read and played, or wasn't
abbrev pub IsFolderInspected : Outside → Outside → Text → Module → List ScriptLine → End → Type 0
IsFolderInspected before after dir m ls r =
    ((fault : GetFault) × IsUnread before after dir fault r) ⊎ IsInspected before after dir m ls r

-- a pack of the module was written, read back and played, or not
abbrev pub IsPackInspected : Outside → Outside → Text → Module → Written → List ScriptLine → End → Type 0
IsPackInspected before after dir m pack ls r =
    (ns script : Text) → IsProgram m → Low m → is_written pack ≡ true → IsPackFor ns m pack
    → where_script_read script ≡ lines ls → IsInspectEnd dir m pack ls before after r

-- The module was linked, and its pack was written, read back and played, or not.
pub record IsInspectedFor (before after : Outside) (bytes dir ns : Text) (ls : List ScriptLine) (r : End)
    : Type 0 where
  pub pack : Written
  pub is_pack : IsPackOfBytes bytes ns pack
  pub written : is_written pack ≡ true
  pub ends : (script : Text) → where_script_read script ≡ lines ls
      → IsInspectEnd dir is_pack.source pack ls before after r

abbrev pub IsModuleInspected : Outside → Outside → Text → Text → Text → List ScriptLine → End → Type 0
IsModuleInspected before after bytes dir ns ls r =
    IsUnlinked before after bytes ns r
    ⊎ (IsUnseenFor before after bytes dir r ⊎ IsInspectedFor before after bytes dir ns ls r)

-- a job of whose files these are the bytes and the lines
abbrev pub IsJobDone : Job → Outside → Outside → Text → List ScriptLine → End → Type 0
IsJobDone (jobs.Compile file dir ns) before after bytes ls r = IsModuleCompiled before after bytes dir ns r
IsJobDone (jobs.Costs file dir ns) before after bytes ls r = IsModuleCosted before after bytes dir ns r
IsJobDone (jobs.Run dir script) before after bytes ls r = IsFolderPlayed before after dir ls r
IsJobDone (jobs.Exec file dir ns script) before after bytes ls r = IsModuleExecuted before after bytes dir ns ls r
IsJobDone (jobs.Inspect file dir ns script) before after bytes ls r = IsModuleInspected before after bytes dir ns ls r
IsJobDone (jobs.Gen number size file dir) before after bytes ls r = ⊥
IsJobDone (jobs.Join file dir ns script libraries) before after bytes ls r = ⊥
IsJobDone (jobs.Multi script dirs) before after bytes ls r = ⊥
