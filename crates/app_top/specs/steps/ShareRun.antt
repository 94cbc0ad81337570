-- The parts of a job of several programs, as the private functions of the program do them.
use Rattle.std.specs.Prelude.{◌≡◌, ◌⊎◌, ℕ, ◌*◌, List, map, true, false, Some, Result, Ok, Err, slice_get}
use Rattle.std.specs.declared.vec.Vec.{Vec}
use Rattle.std.specs.declared.alloc.Global.{Global}
use Rattle.io_dev.specs.Files.{FilesState}
use Rattle.mc_cmd.specs.declared.TheConstants.{BMIN}
use Rattle.mc_cmd.specs.Form.{Text}
use Rattle.mc_cmd.specs.Packing.{Written, pack_view}
use Rattle.mc_together.specs.Programs.{MayLiveTogether}
use Rattle.app_words.specs.Script.{lines, bad}
use Rattle.app_words.specs.SharedScript.{shared_script_read}
use Rattle.app_words.specs.View.{shared_line_view}
use Rattle.app_words.specs.declared.act.SharedLine.{SharedLine}
use Rattle.app_words.specs.declared.reading.ScriptFault.{ScriptFault}
use Rattle.app_words.specs.declared.reading.ScriptFault.TheVariants as scripts
use Rattle.pk_files.specs.Folder.{IsPackRead}
use Rattle.pk_files.specs.Held.{Holds}
use Rattle.pk_files.specs.Told.{told_of}
use Rattle.pk_files.specs.declared.fault.GetFault.{GetFault}
use Rattle.pk_multi.specs.Making.{IsRefused}
use Rattle.pk_multi.specs.State.{made_of, state_of}
use Rattle.pk_multi.specs.declared.fault.MultiFault.{MultiFault}
use Rattle.pk_multi.specs.declared.programs.Programs.{Programs}
use Rattle.app_top.specs.Sharing.{AreHeld, IsFirstUnread, IsToldAs, of_get_at}
use Rattle.app_top.specs.declared.refusal.Refusal.{Refusal}
use Rattle.app_top.specs.declared.refusal.Refusal.TheVariants as refusals

-- the refusal of a script over n programs
abbrev pub of_shared : ℕ → ScriptFault → Refusal
of_shared n (scripts.Line line true) = refusals.LowBudget line (BMIN * n)
of_shared n (scripts.Line line false) = refusals.Script line false
of_shared n scripts.Memory = refusals.Memory

-- the lines of a script over n programs were read, or it has one that is none
abbrev pub AreSharedLinesRead : ℕ → Text → Result (Vec SharedLine Global) Refusal → Type 0
AreSharedLinesRead n bytes (Ok v) = shared_script_read n bytes ≡ lines (map shared_line_view v.items)
AreSharedLinesRead n bytes (Err (refusals.Script line low)) =
    (low ≡ false) × (shared_script_read n bytes ≡ bad line false)
AreSharedLinesRead n bytes (Err (refusals.LowBudget line least)) =
    (least ≡ BMIN * n) × (shared_script_read n bytes ≡ bad line true)
AreSharedLinesRead n bytes (Err refusals.Memory) = Unit {0}
AreSharedLinesRead n bytes (Err refusal) = ⊥

-- the pack of a folder was read, or the folder was refused
abbrev pub IsPackReadAt : FilesState → FilesState → Text → Result Written Refusal → Type 0
IsPackReadAt before after dir (Ok w) = Holds before.content dir (told_of w) × (after ≡ before)
IsPackReadAt before after dir (Err refusal) =
    (fault : GetFault) × IsPackRead before after dir (Err fault) × (refusal ≡ of_get_at dir fault)

-- the packs of folders were read, or one of the folders was refused
abbrev pub ArePacksRead : FilesState → FilesState → List Text → Result (Vec Written Global) Refusal → Type 0
ArePacksRead before after dirs (Ok v) = AreHeld before.content dirs (map told_of v.items) × (after ≡ before)
ArePacksRead before after dirs (Err refusal) =
    (dir : Text) × (fault : GetFault) × IsFirstUnread before after dirs dir fault × (refusal ≡ of_get_at dir fault)

-- the refusal of a line that isn't tidy, in the pack of the folder at a place, or there was no memory to tell it
abbrev pub IsUntidyTold : List Text → ℕ → Text → ℕ → Refusal → Type 0
IsUntidyTold dirs place name line refusal =
    ((dir : Text) × (slice_get dirs place ≡ Some dir) × (refusal ≡ refusals.Untidy dir name line))
    ⊎ (refusal ≡ refusals.Memory)

-- the programs of the packs of folders, or why the packs may not live together
abbrev pub AreProgramsMade : List Written → List Text → Result Programs Refusal → Type 0
AreProgramsMade ws dirs (Ok p) = MayLiveTogether ws × (state_of p ≡ made_of (map pack_view ws))
AreProgramsMade ws dirs (Err refusal) = (fault : MultiFault) × IsRefused ws fault × IsToldAs dirs fault refusal
