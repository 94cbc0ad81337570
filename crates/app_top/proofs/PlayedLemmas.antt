-- Files that are read, and packs that are read back and played, in a run that did all or ended for want of memory.
use Rattle.std.proofs.Common.{◌≡◌, ◌∙◌, sym, ap, subst, ℕ, ◌<◌, List, length, Result, Ok, Err, Option, Some, inl, inr, ◌⊎◌, Bool, arith}
use Rattle.std.specs.Prelude.{IsSomeAnd}
use Rattle.io_dev.specs.Faults.{Rose}
use Rattle.io_dev.specs.Files.{FilesState}
use Rattle.io_dev.specs.Folder.{Folder, IsLonger, Reads}
use Rattle.io_dev.specs.Sink.{SinkState}
use Rattle.mc_cmd.specs.Form.{Text}
use Rattle.mc_cmd.specs.Pack.{loaded}
use Rattle.mc_cmd.specs.Packing.{Written, pack_view}
use Rattle.mc_cmd.proofs.FormLemmas.{some_same}
use Rattle.wm_ast.specs.declared.module.Module.{Module}
use Rattle.app_words.specs.Act.{Act, ScriptLine}
use Rattle.app_words.specs.Report.{Cause, finished, refused, report}
use Rattle.app_words.specs.Script.{ScriptRead, script_read, lines, bad}
use Rattle.app_words.specs.WhereReport.{IsReport}
use Rattle.app_words.proofs.WhereReportLemmas.{ends_as}
use Rattle.app_inspect.specs.Tell.{MayTell}
use Rattle.app_play.specs.Play.{IsPlayed, IsPlayedTo, cause_view}
use Rattle.app_play.specs.declared.fault.PlayFault.{PlayFault}
use Rattle.app_play.specs.declared.fault.PlayFault.TheVariants as plays
use Rattle.pk_files.specs.Folder.{IsPackRead}
use Rattle.pk_files.specs.Held.{Holds}
use Rattle.pk_files.specs.Put.{pack_files, put_all}
use Rattle.pk_files.specs.Told.{Told, told_of}
use Rattle.pk_files.proofs.WrittenLemmas.{inserts, put_all-told}
use Rattle.app_top.specs.Complete.{HasScriptAt, HasScriptSaid, IsEmpty, IsFaultless, IsPlayable}
use Rattle.app_top.specs.Outside.{Outside}
use Rattle.app_top.specs.Jobs.{End, IsDelivered, IsExecEnd, IsInspectEnd, IsInspected, IsInspectedBack, IsInspectedOf, IsPlayedBack, IsReported, IsReportedOf, IsUnreadAgain, IsUntold, end_of_play, file_cap}
use Rattle.app_top.proofs.FineLemmas.{IsFine, undelivered_fine, unread_fine}

-- ---- what is read

pub same_bytes : (folder : Folder) (path a b : Text) (cap : ℕ) → Reads (Some folder) path cap a → Reads (Some folder) path cap b → a ≡ b
same_bytes folder path a b cap p q = some_same a b (sym p.is_file ∙ q.is_file)

pub not_longer : (folder : Folder) (path bytes : Text) (cap : ℕ) → Reads (Some folder) path cap bytes → IsLonger (Some folder) path cap → ⊥
not_longer folder path bytes cap r long =
    let h : cap < length bytes = subst (λ (o : Option Text). IsSomeAnd o (λ b. cap < length b)) r.is_file long in
    omega (arith, h, r.within)

pub lines_same : (ks ls : List ScriptLine) → lines ks ≡ lines ls → ks ≡ ls
lines_same ks ls e = cc

pub not_bad : (n : ℕ) (low : Bool) (ls : List ScriptLine) → bad n low ≡ lines ls → ⊥
not_bad n low ls e = cc

pub said_lines : (said : Text → ScriptRead Act) (folder : Folder) (path bytes : Text) (ks ls : List ScriptLine) → HasScriptSaid said folder path ks → Reads (Some folder) path file_cap bytes
    → said bytes ≡ lines ls → ks ≡ ls
said_lines said folder path bytes ks ls s r e =
    lines_same ks ls (sym s.is_script ∙ ap said (same_bytes folder path s.bytes bytes file_cap s.reads r) ∙ e)

pub same_lines : (folder : Folder) (path bytes : Text) (ks ls : List ScriptLine) → HasScriptAt folder path ks → Reads (Some folder) path file_cap bytes → script_read bytes ≡ lines ls → ks ≡ ls
same_lines folder path bytes ks ls s r e = said_lines script_read folder path bytes ks ls s r e

-- ---- a pack that is read and played

pub not_refused_at : (line : ℕ) (cause : Cause) → finished ≡ refused line cause → ⊥
not_refused_at line cause e = cc

pub reported_fine : (before after : Outside) (dir : Text) (ls : List ScriptLine) (r : End)
    → ¬ Rose before.out.faults after.out.faults → ((w : Written) → IsPackRead before.files after.files dir (Ok w) → IsPlayable (told_of w) ls) → IsReported before after dir ls r → IsFine r
reported_fine before after dir ls r f play h = go h.end h.played h.is_end
  where
    go : (end : Result (Unit {0}) PlayFault) → IsPlayed (report (pack_view h.pack) ls (loaded (pack_view h.pack))) end before.out after.out → r ≡ end_of_play end → IsFine r
    go (Ok u) p e = inl e
    go (Err plays.Output) p e = absurd (f p.counted)
    go (Err (plays.Refused line cause)) p e = absurd (not_refused_at line (cause_view cause) (sym (play h.pack h.read) ∙ p.0))
    go (Err plays.Memory) p e = inr e

-- the same of a script that may ask where the program is
pub inspected_fine : (before after : Outside) (dir : Text) (m : Module) (ls : List ScriptLine) (r : End)
    → ¬ Rose before.out.faults after.out.faults → ((w : Written) → IsPackRead before.files after.files dir (Ok w) → IsPlayable (told_of w) ls) → IsInspected before after dir m ls r → IsFine r
inspected_fine before after dir m ls r f play h = go h.end h.played.played h.is_end
  where
    ends : (line : ℕ) (cause : Cause) → h.played.report.end ≡ Some (refused line cause) → ⊥
    ends line cause e =
        not_refused_at line cause
        (sym (play h.pack h.read) ∙ ends_as (MayTell m) (pack_view h.pack) ls (loaded (pack_view h.pack)) h.played.report h.played.is_report (refused line cause) e)

    go : (end : Result (Unit {0}) PlayFault) → IsPlayedTo h.played.report end before.out after.out → r ≡ end_of_play end → IsFine r
    go (Ok u) p e = inl e
    go (Err plays.Output) p e = absurd (f p.counted)
    go (Err (plays.Refused line cause)) p e = absurd (ends line (cause_view cause) p.0)
    go (Err plays.Memory) p e = inr e

-- what holds of the files and the output between the writing of a pack and its play, where nothing failed
record IsStill (between after : Outside) (folder : Folder) (dir : Text) (pack : Written) (ls : List ScriptLine)
    : Type 0 where
  told : between.files.content ≡ Some (inserts folder (pack_files dir (told_of pack)))
  reads : ¬ Rose between.files.read_faults after.files.read_faults
  output : ¬ Rose between.out.faults after.out.faults
  over : (w : Written) → IsPackRead between.files after.files dir (Ok w) → IsPlayable (told_of w) ls

still : (before between after : Outside) (folder : Folder) (dir : Text) (m : Module) (pack : Written) (ls : List ScriptLine)
    → before.files.content ≡ Some folder → ((t : Told) → Holds after.files.content dir t → IsPlayable t ls) → IsFaultless before after
    → IsDelivered before.files between.files dir m pack → between.out ≡ before.out → IsStill between after folder dir pack ls
still before between after folder dir m pack ls e play f delivered same = record {
  told = ap (λ (s : FilesState). s.content) put ∙ ap (λ (c : Option Folder). put_all c (pack_files dir (told_of pack))) e ∙ put_all-told folder (pack_files dir (told_of pack));
  reads = subst (λ (n : ℕ). ¬ Rose n after.files.read_faults) (sym (ap (λ (s : FilesState). s.read_faults) put)) f.reads;
  output = subst (λ (s : SinkState). ¬ Rose s.faults after.out.faults) (sym same) f.output;
  over = λ w read. play (told_of w) (subst (λ (s : FilesState). Holds s.content dir (told_of w)) (sym read.1) read.0);
}
  where
    put : between.files ≡ record before.files { content = put_all before.files.content (pack_files dir (told_of pack)) }
    put = delivered.written.1

unread_again_fine : (between after : Outside) (folder : Folder) (dir : Text) (pack : Written) (ls : List ScriptLine) (r : End)
    → IsStill between after folder dir pack ls → IsUnreadAgain between after dir r → IsFine r
unread_again_fine between after folder dir pack ls r s u =
    unread_fine between after dir u.0 r s.reads (subst (λ (c : Option Folder). IsUntold c u.0) s.told u.2) u.1

pub played_back_fine : (before after : Outside) (folder : Folder) (dir : Text) (m : Module) (pack : Written) (ls : List ScriptLine) (r : End)
    → before.files.content ≡ Some folder → ((t : Told) → Holds after.files.content dir t → IsPlayable t ls) → IsFaultless before after → IsPlayedBack before after dir m pack ls r → IsFine r
played_back_fine before after folder dir m pack ls r e play f h =
    go (still before h.between after folder dir m pack ls e play f h.delivered h.same_out) h.ends
  where
    go : IsStill h.between after folder dir pack ls → IsUnreadAgain h.between after dir r ⊎ IsReportedOf h.between after dir m pack ls r → IsFine r
    go s (inl u) = unread_again_fine h.between after folder dir pack ls r s u
    go s (inr p) = reported_fine h.between after dir ls r s.output s.over p.reported

pub inspected_back_fine : (before after : Outside) (folder : Folder) (dir : Text) (m : Module) (pack : Written) (ls : List ScriptLine) (r : End)
    → before.files.content ≡ Some folder → ((t : Told) → Holds after.files.content dir t → IsPlayable t ls) → IsFaultless before after → IsInspectedBack before after dir m pack ls r → IsFine r
inspected_back_fine before after folder dir m pack ls r e play f h =
    go (still before h.between after folder dir m pack ls e play f h.delivered h.same_out) h.ends
  where
    go : IsStill h.between after folder dir pack ls → IsUnreadAgain h.between after dir r ⊎ IsInspectedOf h.between after dir m pack ls r → IsFine r
    go s (inl u) = unread_again_fine h.between after folder dir pack ls r s u
    go s (inr p) = inspected_fine h.between after dir m ls r s.output s.over p.inspected

pub exec_fine : (before after : Outside) (folder : Folder) (dir : Text) (m : Module) (pack : Written) (ls : List ScriptLine) (r : End)
    → before.files.content ≡ Some folder → IsEmpty folder dir → ((t : Told) → Holds after.files.content dir t → IsPlayable t ls) → IsFaultless before after → IsExecEnd dir m pack ls before after r → IsFine r
exec_fine before after folder dir m pack ls r e bare play f (inl h) = undelivered_fine before after folder dir pack r e bare f h
exec_fine before after folder dir m pack ls r e bare play f (inr h) = played_back_fine before after folder dir m pack ls r e play f h

pub inspect_fine : (before after : Outside) (folder : Folder) (dir : Text) (m : Module) (pack : Written) (ls : List ScriptLine) (r : End)
    → before.files.content ≡ Some folder → IsEmpty folder dir → ((t : Told) → Holds after.files.content dir t → IsPlayable t ls) → IsFaultless before after → IsInspectEnd dir m pack ls before after r → IsFine r
inspect_fine before after folder dir m pack ls r e bare play f (inl h) = undelivered_fine before after folder dir pack r e bare f h
inspect_fine before after folder dir m pack ls r e bare play f (inr h) = inspected_back_fine before after folder dir m pack ls r e play f h
