-- What has to be so of a run that nothing refuses: all that its words name is in order, and no call fails.
use Rattle.std.specs.Prelude.{◌≡◌, ◌⊎◌, ℕ, List, [], length, map, Option, Some, Ok}
use Rattle.std.specs.FinMap.{insert}
use Rattle.io_dev.specs.Faults.{Rose}
use Rattle.io_dev.specs.Folder.{Folder, Reads}
use Rattle.io_dev.specs.Names.{IsListing}
use Rattle.mc_cmd.specs.Form.{Text}
use Rattle.mc_cmd.specs.Pack.{loaded}
use Rattle.mc_together.specs.Together.{loaded as loaded_together}
use Rattle.app_words.specs.Act.{Act, ScriptLine}
use Rattle.app_words.specs.Report.{finished, report}
use Rattle.app_words.specs.Script.{ScriptRead, script_read, lines}
use Rattle.app_words.specs.SharedReport.{shared_report}
use Rattle.app_words.specs.SharedScript.{SharedLine, shared_script_read}
use Rattle.app_words.specs.WhereScript.{where_script_read}
use Rattle.app_words.specs.Words.{ReadsWords}
use Rattle.app_words.specs.declared.command_line.Job.{Job}
use Rattle.app_words.specs.declared.command_line.Job.TheVariants as jobs
use Rattle.app_words.specs.declared.named_files.NamedFile.{NamedFile}
use Rattle.pk_files.specs.Held.{Holds}
use Rattle.pk_files.specs.Told.{Told, pack_told}
use Rattle.wm_ast.specs.declared.module.Module.{Module}
use Rattle.wm_match.specs.Program.{Program}
use Rattle.app_top.specs.Outside.{Outside}
use Rattle.app_top.specs.Source.{HasModule}
use Rattle.app_top.specs.Jobs.{file_cap}
use Rattle.app_top.specs.Workload.{workload_bytes}
use Rattle.app_top.specs.Joining.{AreRead, HasJoined, file_of}
use Rattle.app_top.specs.Sharing.{AreHeld, LiveTogether}
use Rattle.app_top.specs.declared.inputs.Sources.{Sources}
use Rattle.app_top.specs.declared.refusal.Status.{Status}
use Rattle.app_top.specs.declared.refusal.Status.TheVariants as status

-- The file at the path isn't too long, and its bytes spell a valid module of the profile whose functions are low.
pub record HasModuleAt (folder : Folder) (path : Text) : Type 0 where
  pub bytes : Text
  pub reads : Reads (Some folder) path file_cap bytes
  pub source : Module
  pub has_module : HasModule bytes source

-- The files of the main module and of the libraries aren't too long, and their bytes spell modules that are linked into
-- a valid module of the profile whose functions are low.
pub record HasJoinedAt (folder : Folder) (main : Text) (libraries : List NamedFile) : Type 0 where
  pub sources : Sources
  pub reads_libraries : AreRead (Some folder) (map file_of libraries) sources.libraries
  pub reads_main : Reads (Some folder) main file_cap sources.main
  pub program : Program
  pub has_joined : HasJoined libraries sources program

-- the file at the path isn't too long, and is a script of these lines, by what bytes say
pub record HasScriptSaid (said : Text → ScriptRead Act) (folder : Folder) (path : Text) (ls : List ScriptLine)
    : Type 0 where
  pub bytes : Text
  pub reads : Reads (Some folder) path file_cap bytes
  pub is_script : said bytes ≡ lines ls

-- it is a script, or one that may ask where the program is
abbrev pub HasScriptAt : Folder → Text → List ScriptLine → Type 0
HasScriptAt folder path ls = HasScriptSaid script_read folder path ls

abbrev pub HasWhereScriptAt : Folder → Text → List ScriptLine → Type 0
HasWhereScriptAt folder path ls = HasScriptSaid where_script_read folder path ls

-- the file at the path isn't too long, and is a script of these lines over n programs
pub record HasSharedScriptAt (folder : Folder) (path : Text) (n : ℕ) (ls : List SharedLine) : Type 0 where
  pub bytes : Text
  pub reads : Reads (Some folder) path file_cap bytes
  pub is_script : shared_script_read n bytes ≡ lines ls

-- no file shows a name in the folder
abbrev pub IsEmpty : Folder → Text → Type 0
IsEmpty folder dir = IsListing folder dir []

-- no line of the script is refused, over this pack
abbrev pub IsPlayable : Told → List ScriptLine → Type 0
IsPlayable t ls = (report (pack_told t) ls (loaded (pack_told t))).end ≡ finished

-- no line of the script is refused, over these packs in one world
abbrev pub ArePlayable : List Told → List SharedLine → Type 0
ArePlayable ts ls = (shared_report (map pack_told ts) ls (loaded_together (map pack_told ts))).end ≡ finished

-- What a job names is in order, where the files hold this before the run and that after it. `compile`, `costs` and
-- `exec` want a module, and DIR empty; `run` wants that DIR holds a pack. `run` and `exec` want a script of which no
-- line is refused over the pack in DIR. For `exec` that is the pack that DIR holds after the run. `inspect` wants what
-- `exec` wants, of a script that may ask where the program is. `gen` wants DIR empty once FILE is written. `join` wants
-- what `exec` wants, of modules that can be joined in place of one module. `multi` wants what `run` wants, of packs that
-- may live together in place of one pack.
abbrev pub IsJobInOrder : Job → Folder → Option Folder → Type 0
IsJobInOrder (jobs.Compile file dir ns) before after = HasModuleAt before file × IsEmpty before dir
IsJobInOrder (jobs.Costs file dir ns) before after = HasModuleAt before file × IsEmpty before dir
IsJobInOrder (jobs.Run dir script) before after =
    (ls : List ScriptLine)
    × HasScriptAt before script ls
    × ((t : Told) × Holds (Some before) dir t × IsPlayable t ls)
IsJobInOrder (jobs.Exec file dir ns script) before after =
    HasModuleAt before file
    × IsEmpty before dir
    × ((ls : List ScriptLine)
    × HasScriptAt before script ls
    × ((t : Told) → Holds after dir t → IsPlayable t ls))
IsJobInOrder (jobs.Inspect file dir ns script) before after =
    HasModuleAt before file
    × IsEmpty before dir
    × ((ls : List ScriptLine)
    × HasWhereScriptAt before script ls
    × ((t : Told) → Holds after dir t → IsPlayable t ls))
IsJobInOrder (jobs.Gen number size file dir) before after =
    IsEmpty (insert before file (workload_bytes number size)) dir
IsJobInOrder (jobs.Join file dir ns script libraries) before after =
    HasJoinedAt before file libraries
    × IsEmpty before dir
    × ((ls : List ScriptLine)
    × HasScriptAt before script ls
    × ((t : Told) → Holds after dir t → IsPlayable t ls))
IsJobInOrder (jobs.Multi script dirs) before after =
    (ls : List SharedLine)
    × HasSharedScriptAt before script (length dirs) ls
    × ((ts : List Told) × AreHeld (Some before) dirs ts × LiveTogether ts × ArePlayable ts ls)

-- No read, no listing and no write failed: none of these counts rose. A count at the end of its type doesn't tell that.
pub record IsFaultless (before after : Outside) : Type 0 where
  pub reads : ¬ Rose before.files.read_faults after.files.read_faults
  pub writes : ¬ Rose before.files.write_faults after.files.write_faults
  pub output : ¬ Rose before.out.faults after.out.faults

-- the words name a job, the files tell their content, what the job names is in order, and nothing failed
pub record IsInOrder (ws : List Text) (before after : Outside) : Type 0 where
  pub job : Job
  pub is_job : ReadsWords ws (Ok job)
  pub folder : Folder
  pub told : before.files.content ≡ Some folder
  pub in_order : IsJobInOrder job folder after.files.content
  pub faultless : IsFaultless before after

-- all was done, or there was no memory
abbrev pub IsDoneOrMemory : Status → Type 0
IsDoneOrMemory s = (s ≡ status.Done) ⊎ (s ≡ status.Memory)
