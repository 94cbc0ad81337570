-- What becomes of a job of several programs, whose packs live in one world and share each budget.
use Rattle.std.specs.Prelude.{◌≡◌, ◌≢◌, ◌⊎◌, ℕ, ◌*◌, List, [], ◌∷◌, length, map, Option, Some, true, false, Ok, Err}
use Rattle.std.specs.Prelude.{Result, slice_get}
use Rattle.io_dev.specs.Files.{FilesState, ReadFailed}
use Rattle.io_dev.specs.Folder.{Folder, IsLonger, Reads}
use Rattle.mc_cmd.specs.declared.TheConstants.{BMIN}
use Rattle.mc_cmd.specs.Form.{Text}
use Rattle.mc_cmd.specs.Packing.{Written}
use Rattle.mc_together.specs.Programs.{all_tidy}
use Rattle.mc_together.specs.Together.{ArePrograms, loaded}
use Rattle.app_words.specs.Script.{lines, bad}
use Rattle.app_words.specs.SharedReport.{shared_report}
use Rattle.app_words.specs.SharedScript.{SharedLine, shared_script_read}
use Rattle.app_play.specs.Play.{IsPlayed}
use Rattle.app_play.specs.declared.fault.PlayFault.{PlayFault}
use Rattle.pk_files.specs.Folder.{IsPackRead}
use Rattle.pk_files.specs.Held.{Holds}
use Rattle.pk_files.specs.Paths.{pack_cap}
use Rattle.pk_files.specs.Told.{Told, pack_told, told_of}
use Rattle.pk_files.specs.declared.fault.GetFault.{GetFault}
use Rattle.pk_files.specs.declared.fault.GetFault.TheVariants as gets
use Rattle.pk_multi.specs.Making.{IsRefused}
use Rattle.pk_multi.specs.declared.fault.MultiFault.{MultiFault}
use Rattle.pk_multi.specs.declared.fault.MultiFault.TheVariants as faults
use Rattle.app_top.specs.Jobs.{End, end_of_play, file_cap}
use Rattle.app_top.specs.Outside.{Outside}
use Rattle.app_top.specs.declared.refusal.Refusal.{Refusal}
use Rattle.app_top.specs.declared.refusal.Refusal.TheVariants as refusals

-- ---- the script

-- the bytes of the script, which isn't too long
pub record HasBytes (content : Option Folder) (script : Text) : Type 0 where
  pub bytes : Text
  pub reads : Reads content script file_cap bytes

-- The script of n programs was refused before a folder was read, in this order: it could not be read or is too long; it
-- has a line that is no script line, for a budget below the least one of n programs alone or not. Or there was no
-- memory. But for the count of a read that failed nothing has changed.
abbrev pub IsScriptRefused : Text → ℕ → Outside → Outside → Refusal → Type 0
IsScriptRefused script n before after (refusals.CannotRead p) =
    (p ≡ script) × ReadFailed before.files after.files script × (after.out ≡ before.out)
IsScriptRefused script n before after (refusals.TooLong p c) =
    (p ≡ script) × (c ≡ file_cap) × IsLonger before.files.content script file_cap × (after ≡ before)
IsScriptRefused script n before after (refusals.Script i low) =
    (h : HasBytes before.files.content script)
    × (low ≡ false)
    × (shared_script_read n h.bytes ≡ bad i false)
    × (after ≡ before)
IsScriptRefused script n before after (refusals.LowBudget i least) =
    (h : HasBytes before.files.content script)
    × (least ≡ BMIN * n)
    × (shared_script_read n h.bytes ≡ bad i true)
    × (after ≡ before)
IsScriptRefused script n before after refusals.Memory = after ≡ before
IsScriptRefused script n before after refusal = ⊥

-- ---- the folders

-- the folders hold these packs, each the one at its place
abbrev pub AreHeld : Option Folder → List Text → List Told → Type 0
AreHeld content [] [] = Unit {0}
AreHeld content (dir ∷ dirs) (t ∷ ts) = Holds content dir t × AreHeld content dirs ts
AreHeld content _ _ = ⊥

-- of the folders, which are read in this order, this one was refused for this fault: those before it hold packs
abbrev pub IsFirstUnread : FilesState → FilesState → List Text → Text → GetFault → Type 0
IsFirstUnread before after [] dir fault = ⊥
IsFirstUnread before after (d ∷ dirs) dir fault =
    ((d ≡ dir) × IsPackRead before after d (Err fault))
    ⊎ (((t : Told) × Holds before.content d t) × IsFirstUnread before after dirs dir fault)

-- the cause for which a run ends, for a fault of reading the pack of the folder at a path
abbrev pub of_get_at : Text → GetFault → Refusal
of_get_at dir (gets.ListFailed path) = refusals.CannotList path
of_get_at dir (gets.Failed path) = refusals.CannotRead path
of_get_at dir (gets.TooLong path) = refusals.TooLong path pack_cap
of_get_at dir gets.Memory = refusals.Memory
of_get_at dir fault = refusals.NoPackAt dir fault

-- a folder was refused: its files say no pack, or couldn't be read
abbrev pub IsFolderRefused : List Text → Outside → Outside → End → Type 0
IsFolderRefused dirs before after r =
    (dir : Text)
    × (fault : GetFault)
    × IsFirstUnread before.files after.files dirs dir fault
    × (after.out ≡ before.out)
    × (r ≡ Err (of_get_at dir fault))

-- ---- the programs

-- packs that may live together: each is tidy under its namespace, and no two have the same
pub record LiveTogether (ts : List Told) : Type 0 where
  pub tidy : (i : ℕ) (t : Told) → slice_get ts i ≡ Some t → all_tidy t.index.ns t.functions ≡ true
  pub differ :
      (i j : ℕ) (t u : Told) → slice_get ts i ≡ Some t → slice_get ts j ≡ Some u → i ≢ j → t.index.ns ≢ u.index.ns

-- the cause for which a run ends, for a reason why the packs of these folders may not live together
abbrev pub IsToldAs : List Text → MultiFault → Refusal → Type 0
IsToldAs dirs (faults.SameSpace i) refusal = refusal ≡ refusals.SameSpace i
IsToldAs dirs (faults.Untidy i name line) refusal =
    (dir : Text) × (slice_get dirs i ≡ Some dir) × (refusal ≡ refusals.Untidy dir name line)
IsToldAs dirs faults.Memory refusal = refusal ≡ refusals.Memory

-- The packs may not live together: one has the namespace of another before it, or else a line isn't tidy. Or there was
-- no memory. Nothing has changed.
pub record AreRefused (dirs : List Text) (before after : Outside) (r : End) : Type 0 where
  pub packs : List Written
  pub held : AreHeld before.files.content dirs (map told_of packs)
  pub fault : MultiFault
  pub refused : IsRefused packs fault
  pub refusal : Refusal
  pub told : IsToldAs dirs fault refusal
  pub same : after ≡ before
  pub is_end : r ≡ Err refusal

-- The folders hold packs that may live together, and the script was played over them, to its end or as far as it came.
-- What is proved of programs that live together holds of these.
pub record IsSharedPlayed (dirs : List Text) (ls : List SharedLine) (before after : Outside) (r : End) : Type 0 where
  pub packs : List Told
  pub held : AreHeld before.files.content dirs packs
  pub together : LiveTogether packs
  pub programs : ArePrograms (map pack_told packs)
  pub same_files : after.files ≡ before.files
  pub end : Result (Unit {0}) PlayFault
  pub played : IsPlayed (shared_report (map pack_told packs) ls (loaded (map pack_told packs))) end before.out after.out
  pub is_end : r ≡ end_of_play end

-- ---- the job

-- what became of the job once its script was accepted: a folder was refused, or the packs of all were, or the script
-- was played over them
pub record IsSharedDone (script : Text) (dirs : List Text) (before after : Outside) (r : End) : Type 0 where
  pub read : HasBytes before.files.content script
  pub said : List SharedLine
  pub is_script : shared_script_read (length dirs) read.bytes ≡ lines said
  pub ends :
      IsFolderRefused dirs before after r
      ⊎ (AreRefused dirs before after r ⊎ IsSharedPlayed dirs said before after r)

-- the job was refused first
abbrev pub IsSharedFirst : Text → List Text → Outside → Outside → End → Type 0
IsSharedFirst script dirs before after (Err refusal) = IsScriptRefused script (length dirs) before after refusal
IsSharedFirst script dirs before after (Ok u) = ⊥

-- `multi`: refused first, or done as far as it came
abbrev pub IsSharedAnswered : Text → List Text → Outside → Outside → End → Type 0
IsSharedAnswered script dirs before after r =
    IsSharedFirst script dirs before after r ⊎ IsSharedDone script dirs before after r
