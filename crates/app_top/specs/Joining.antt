-- What becomes of a job that joins modules. Library k is module k, and the main module is the last one.
use Rattle.std.specs.Prelude.{◌≡◌, ◌⊎◌, List, [], ◌∷◌, ◌++◌, map, Option, Some, true, Err}
use Rattle.io_dev.specs.Files.{ReadFailed}
use Rattle.io_dev.specs.Folder.{Folder, IsLonger, Reads}
use Rattle.mc_cmd.specs.Form.{Text}
use Rattle.mc_cmd.specs.Pack.{loaded}
use Rattle.mc_cmd.specs.Packing.{Written, is_written, pack_view}
use Rattle.wm_ast.specs.declared.module.Module.{Module}
use Rattle.wm_ast.specs.Profile.{InProfile}
use Rattle.wm_ast.specs.Spelling.{Spells}
use Rattle.wm_decode.specs.declared.decoding.DecodeFault.{DecodeFault}
use Rattle.wm_profile.specs.declared.fault.ProfileFault.{ProfileFault}
use Rattle.wm_profile.specs.Cause.{first_fault}
use Rattle.wm_valid.specs.declared.valid_fault.ValidFault.{ValidFault}
use Rattle.wm_valid.specs.Height.{Low}
use Rattle.wm_valid.specs.Valid.{Valid}
use Rattle.wm_match.specs.declared.fault.MatchFault.{MatchFault}
use Rattle.wm_match.specs.declared.fault.MatchFault.TheVariants as faults
use Rattle.wm_match.specs.declared.library.Library.{Library}
use Rattle.wm_match.specs.Binds.{Binds}
use Rattle.wm_match.specs.Cause.{IsCause}
use Rattle.wm_match.specs.Program.{Program}
use Rattle.wm_join.specs.Joined.{joined}
use Rattle.pk_link.specs.Linked.{IsPackFor}
use Rattle.app_linked.specs.Tell.{TellsLinked}
use Rattle.app_tell.specs.Tell.{TellsReduction}
use Rattle.app_words.specs.Act.{ScriptLine}
use Rattle.app_words.specs.Report.{report}
use Rattle.app_words.specs.Script.{script_read, lines, bad}
use Rattle.app_words.specs.declared.named_files.NamedFile.{NamedFile}
use Rattle.app_top.specs.Jobs.{End, IsExecEnd, IsScript, IsUnseen, file_cap}
use Rattle.app_top.specs.Outside.{Outside}
use Rattle.app_top.specs.Source.{IsInvalid, IsNotDecoded}
use Rattle.app_top.specs.declared.inputs.Sources.{Sources}
use Rattle.app_top.specs.declared.refusal.Refusal.{Refusal}
use Rattle.app_top.specs.declared.refusal.Refusal.TheVariants as refusals

-- ---- what is read first

-- the file of a library
abbrev pub file_of : NamedFile → Text
file_of l = l.file

-- the files that are read, in this order
abbrev pub paths_of : Text → List NamedFile → Text → List Text
paths_of script libraries main = script ∷ (map file_of libraries ++ main ∷ [])

-- these are the bytes of the files at the paths, none of which is too long
abbrev pub AreRead : Option Folder → List Text → List Text → Type 0
AreRead content [] [] = Unit {0}
AreRead content (path ∷ paths) (bytes ∷ others) = Reads content path file_cap bytes × AreRead content paths others
AreRead content _ _ = ⊥

-- the path whose turn it is to be read: those before it were read
abbrev pub IsNextOf : Option Folder → List Text → Text → Type 0
IsNextOf content [] path = ⊥
IsNextOf content (p ∷ paths) path =
    (p ≡ path) ⊎ (((bytes : Text) × Reads content p file_cap bytes) × IsNextOf content paths path)

-- what was read of the script, of the libraries and of the main module
pub record HasFiles (script : Text) (libraries : List NamedFile) (main : Text) (content : Option Folder) : Type 0 where
  pub script_bytes : Text
  pub sources : Sources
  pub reads_script : Reads content script file_cap script_bytes
  pub reads_libraries : AreRead content (map file_of libraries) sources.libraries
  pub reads_main : Reads content main file_cap sources.main

-- all was read, and the script is one
pub record HasSources (script : Text) (libraries : List NamedFile) (main : Text) (content : Option Folder)
    : Type 0 where
  pub files : HasFiles script libraries main content
  pub is_script : IsScript files.script_bytes

-- ---- from the bytes to the joined module

-- each library has its name, and the bytes of its file spell its module
abbrev pub AreLibraries : List NamedFile → List Text → List Library → Type 0
AreLibraries [] [] [] = Unit {0}
AreLibraries (n ∷ named) (bytes ∷ others) (l ∷ libraries) =
    (l.name ≡ n.name) × Spells bytes l.«module» × AreLibraries named others libraries
AreLibraries _ _ _ = ⊥

-- the bytes of the file at this path spell no module, for this reason, and those of the files before it spell modules
abbrev pub IsFirstUndecoded : List Text → List Text → Text → DecodeFault → Type 0
IsFirstUndecoded (p ∷ paths) (bytes ∷ others) path fault =
    ((p ≡ path) × IsNotDecoded bytes fault)
    ⊎ (((m : Module) × Spells bytes m) × IsFirstUndecoded paths others path fault)
IsFirstUndecoded _ _ path fault = ⊥

-- the cause for which modules aren't linked, want of memory aside
abbrev pub IsUnlinkable : List Library → Module → MatchFault → Type 0
IsUnlinkable libraries main faults.Memory = ⊥
IsUnlinkable libraries main fault = IsCause libraries main fault

-- the libraries by their names and files, and the bytes of the files
module _ (named : List NamedFile) (s : Sources) where
  -- The bytes spell the libraries and the main module.
  pub record AreModules (libraries : List Library) (main : Module) : Type 0 where
    pub spells_libraries : AreLibraries named s.libraries libraries
    pub spells_main : Spells s.main main

  -- The bytes spell the modules of the program, which its bindings link. There is one such program at most.
  pub record AreLinked (p : Program) : Type 0 where
    pub modules : AreModules p.libraries p.main
    pub binds : Binds p

  -- What the linked modules make together is valid and in the profile, and its functions are low.
  pub record HasJoined (p : Program) : Type 0 where
    pub linked : AreLinked p
    pub in_profile : InProfile (joined p)
    pub valid : Valid (joined p)
    pub low : Low (joined p)

  -- the bytes of a file spell no module, for this reason
  abbrev pub IsUndecodedAt : Text → Text → DecodeFault → Type 0
  IsUndecodedAt main path fault =
      IsFirstUndecoded (map file_of named ++ main ∷ []) (s.libraries ++ s.main ∷ []) path fault

  -- The bytes spell modules that aren't linked, for this reason.
  pub record IsUnlinked (fault : MatchFault) : Type 0 where
    pub libraries : List Library
    pub main : Module
    pub modules : AreModules libraries main
    pub refused : IsUnlinkable libraries main fault

  -- The joined module isn't in the profile, for this reason.
  pub record IsJoinedOutside (fault : ProfileFault) : Type 0 where
    pub program : Program
    pub linked : AreLinked program
    pub refused : first_fault (joined program) ≡ Some fault

  -- The joined module is in the profile, and it isn't valid, or a function of it isn't low, for this reason.
  pub record IsJoinedInvalid (fault : ValidFault) : Type 0 where
    pub program : Program
    pub linked : AreLinked program
    pub in_profile : InProfile (joined program)
    pub refused : IsInvalid fault (joined program)

-- ---- the job

-- The job was refused before anything was written or played, in this order: a file could not be read or is too long;
-- the script has a line that is no script line; the bytes of a file spell no module; the modules aren't linked; the
-- joined module isn't in the profile, or isn't valid. Or there was no memory. But for the count of a read that failed
-- nothing has changed.
abbrev pub IsJoinRefused : Text → Text → List NamedFile → Outside → Outside → Refusal → Type 0
IsJoinRefused main script libraries before after (refusals.CannotRead p) =
    IsNextOf before.files.content (paths_of script libraries main) p
    × ReadFailed before.files after.files p
    × (after.out ≡ before.out)
IsJoinRefused main script libraries before after (refusals.TooLong p c) =
    IsNextOf before.files.content (paths_of script libraries main) p
    × (c ≡ file_cap)
    × IsLonger before.files.content p c
    × (after ≡ before)
IsJoinRefused main script libraries before after (refusals.Script n low) =
    (f : HasFiles script libraries main before.files.content)
    × (script_read f.script_bytes ≡ bad n low)
    × (after ≡ before)
IsJoinRefused main script libraries before after (refusals.NotDecodedAt path fault) =
    (h : HasSources script libraries main before.files.content)
    × IsUndecodedAt libraries h.files.sources main path fault
    × (after ≡ before)
IsJoinRefused main script libraries before after (refusals.NotLinked fault) =
    (h : HasSources script libraries main before.files.content)
    × IsUnlinked libraries h.files.sources fault
    × (after ≡ before)
IsJoinRefused main script libraries before after (refusals.NotInProfile fault) =
    (h : HasSources script libraries main before.files.content)
    × IsJoinedOutside libraries h.files.sources fault
    × (after ≡ before)
IsJoinRefused main script libraries before after (refusals.NotValid fault) =
    (h : HasSources script libraries main before.files.content)
    × IsJoinedInvalid libraries h.files.sources fault
    × (after ≡ before)
IsJoinRefused main script libraries before after refusals.Memory = after ≡ before
IsJoinRefused main script libraries before after refusal = ⊥

-- Lines that tell the reduction of the joined module, over any pack that is read, tell that of the linked modules: a
-- `done` or a `trap` is printed only where the linked modules end or trap so.
abbrev pub LinesTellLinked : Program → List ScriptLine → Type 0
LinesTellLinked p ls =
    (read : Written)
    → TellsReduction (joined p) (pack_view read) ls (report (pack_view read) ls (loaded (pack_view read)))
    → TellsLinked p (pack_view read) ls (report (pack_view read) ls (loaded (pack_view read)))

-- the linked modules, and the lines of the script
pub record HasJoinJob (main script : Text) (libraries : List NamedFile) (content : Option Folder) (p : Program)
    (ls : List ScriptLine) : Type 0 where
  pub files : HasFiles script libraries main content
  pub has_joined : HasJoined libraries files.sources p
  pub is_script : script_read files.script_bytes ≡ lines ls

-- a pack for what the linked modules make together
pub record IsLinkedJoin (ns : Text) (p : Program) (pack : Written) (ls : List ScriptLine) : Type 0 where
  pub is_pack : IsPackFor ns (joined p) pack
  pub written : is_written pack ≡ true
  pub tells : LinesTellLinked p ls

-- the job was refused first
abbrev pub IsJoinFirst : Text → Text → List NamedFile → Outside → Outside → End → Type 0
IsJoinFirst main script libraries before after (Err refusal) =
    IsJoinRefused main script libraries before after refusal
IsJoinFirst main script libraries before after r = ⊥

-- what became of the job once its modules were accepted: as of `exec`, of the joined module
abbrev pub IsJoinDone : Text → Text → Text → Text → List NamedFile → Outside → Outside → End → Type 0
IsJoinDone main dir ns script libraries before after r =
    (p : Program) × (ls : List ScriptLine)
    × HasJoinJob main script libraries before.files.content p ls
    × (IsUnseen before after dir r
    ⊎ ((pack : Written) × IsLinkedJoin ns p pack ls × IsExecEnd dir (joined p) pack ls before after r))

-- `join`: refused first, or done as far as it came
abbrev pub IsJoinAnswered : Text → Text → Text → Text → List NamedFile → Outside → Outside → End → Type 0
IsJoinAnswered main dir ns script libraries before after r =
    IsJoinFirst main script libraries before after r ⊎ IsJoinDone main dir ns script libraries before after r
