-- A run of the program, from its parts.
use Rattle.std.proofs.Common.{◌≡◌, ◌∙◌, sym, ap, refl, subst, List, length, Result, Ok, Err, Option, Some, None, inl, inr, ◌⊎◌, false, true}
use Rattle.std.proofs.Math.Seq.{take-length}
use Rattle.std.specs.Result.{IsErr, IsErrAnd}
use Rattle.io_dev.specs.Files.{FilesState}
use Rattle.io_dev.specs.Folder.{Folder}
use Rattle.io_dev.specs.Sink.{SinkState, append, IsSinkWritten}
use Rattle.io_dev.specs.declared.answers.WriteAnswer.{WriteAnswer}
use Rattle.io_dev.specs.declared.answers.WriteAnswer.TheVariants as writes
use Rattle.mc_cmd.specs.Form.{Text}
use Rattle.mc_cmd.specs.Packing.{Written, is_written, pack_view}
use Rattle.app_words.specs.Act.{ScriptLine}
use Rattle.app_words.specs.Script.{script_read, lines}
use Rattle.app_words.specs.WhereScript.{where_script_read}
use Rattle.app_words.specs.declared.command_line.Job.{Job}
use Rattle.app_words.specs.declared.command_line.Job.TheVariants as jobs
use Rattle.pk_files.specs.Folder.{IsPackWritten}
use Rattle.app_tell.proofs.TellLemmas.{lines_tell}
use Rattle.app_inspect.proofs.WhereLemmas.{lines_tell_where}
use Rattle.pk_files.specs.Held.{Holds, IsRefused, is_told}
use Rattle.pk_files.specs.Told.{Told, told_of, pack_told}
use Rattle.pk_files.specs.declared.fault.GetFault.{GetFault}
use Rattle.pk_files.specs.declared.fault.GetFault.TheVariants as gets
use Rattle.pk_files.proofs.HeldLemmas.{holds_one, not_refused}
use Rattle.pk_agree.specs.Agree.{Agrees}
use Rattle.pk_agree.specs.Resume.{Resumable}
use Rattle.wm_flat.specs.Program.{IsProgram}
use Rattle.wm_valid.specs.Height.{Low}
use Rattle.wm_ast.specs.declared.module.Module.{Module}
use Rattle.app_top.specs.Outside.{Outside, outside}
use Rattle.app_top.specs.Jobs.{End, HasInputs, HasSource, HoldsPackOf, IsDelivered, IsDone, IsFirst, IsGivenBack, IsInspected, IsInspectedBack, IsPlayedBack, IsUntold, said_of}
use Rattle.app_top.specs.Top.{IsAnsweredJob, IsPartlyTold}
use Rattle.app_top.specs.declared.inputs.Inputs.{Inputs}
use Rattle.app_top.specs.declared.refusal.Refusal.{Refusal}
use Rattle.app_top.specs.declared.refusal.Refusal.TheVariants as refusals
use Rattle.app_top.specs.steps.Run.{AreInputsRead, AreLinesRead, IsFolderInspected, IsFolderPlayed, IsJobDone, IsPackOfBytes, IsUnlinked, is_plain}
use Rattle.app_top.proofs.DeliveredLemmas.{delivered, told_pack_is}

-- a line that was written whole or in part
pub partly_told : (line : Text) (before after : SinkState) (answer : Result (Unit {0}) WriteAnswer) → IsSinkWritten before after line answer → IsPartlyTold line before after
partly_told line before after (Ok u) e = (length line, ap (λ (s : SinkState). s.written) e ∙ ap (λ t. (append before t).written) (sym (take-length line)))
partly_told line before after (Err writes.Failed) h = h.left
partly_told line before after (Err writes.Memory) h = (h.0, ap (λ (s : SinkState). s.written) h.1)

-- an error that is known is the whole of the result
pub err_is : {T E : Type 0} (r : Result T E) (e : E) → IsErr r × IsErrAnd r (λ x. x ≡ e) → r ≡ Err e
err_is (Ok x) e h = let f : false ≡ true = h.0 in cc
err_is (Err x) e h = ap Err h.1

-- ---- a pack written and read back

-- the pack of a module's bytes, once it is written
pub put_for : (before after : FilesState) (bytes dir ns : Text) (pack : Written)
    → is_written pack ≡ true → (p : IsPackOfBytes bytes ns pack) → IsPackWritten before after dir pack (Ok tt) → IsDelivered before after dir p.source pack
put_for before after bytes dir ns pack w p h =
    record { written = h; holds = delivered before after dir ns p.source pack w p.is_pack h }

-- a fault of reading a folder whose files hold a pack isn't told by them
pub unread_untold : (content : Option Folder) (dir : Text) (m : Module) (pack : Written) (fault : GetFault)
    → HoldsPackOf content dir m pack → (fault ≡ gets.Memory) ⊎ IsRefused content dir fault → IsUntold content fault
unread_untold None dir m pack fault h r = tt
unread_untold (Some folder) dir m pack fault h (inl e) = ap is_told e
unread_untold (Some folder) dir m pack fault h (inr r) = not_refused folder dir h.0 fault h.1 r

-- a pack that was read back agrees with the module of the one that was written
pub read_agrees : (content : Option Folder) (dir : Text) (m : Module) (pack read : Written)
    → Agrees m (pack_view pack) → HoldsPackOf content dir m pack → Holds content dir (told_of read) → IsGivenBack content pack read → Agrees m (pack_view read)
read_agrees None dir m pack read agrees h held given = subst (Agrees m) (told_pack_is pack (told_of read) given) agrees
read_agrees (Some folder) dir m pack read agrees h held given =
    subst (λ (t : Told). Agrees m (pack_told t)) (holds_one folder dir h.0 (told_of read) h.1 held) h.3

-- the folder was read after the pack was written into it
pub played_back : (before between after : Outside) (dir : Text) (m : Module) (pack : Written) (script : Text)
    (ls : List ScriptLine) (r : End)
    → between.out ≡ before.out → Agrees m (pack_view pack) → IsDelivered before.files between.files dir m pack → script_read script ≡ lines ls → IsFolderPlayed between after dir ls r → IsPlayedBack before after dir m pack ls r
played_back before between after dir m pack script ls r same agrees put e (inl h) =
    record {
      between = between;
      delivered = put;
      same_out = same;
      ends = inl (h.0, h.1, unread_untold between.files.content dir m pack h.0 put.holds h.1.0.0);
    }
played_back before between after dir m pack script ls r same agrees put e (inr h) =
    record {
      between = between;
      delivered = put;
      same_out = same;
      ends = inr (record {
        reported = h;
        tells = λ given. lines_tell m (pack_view h.pack) script ls (read_agrees between.files.content dir m pack h.pack agrees put.holds h.read.0 given) e;
      });
    }

-- and so it can be resumed
read_resumable : (content : Option Folder) (dir : Text) (m : Module) (pack read : Written)
    → Resumable m (pack_view pack) → HoldsPackOf content dir m pack → Holds content dir (told_of read) → IsGivenBack content pack read → Resumable m (pack_view read)
read_resumable None dir m pack read resumable h held given = subst (Resumable m) (told_pack_is pack (told_of read) given) resumable
read_resumable (Some folder) dir m pack read resumable h held given =
    subst (λ (t : Told). Resumable m (pack_told t)) (holds_one folder dir h.0 (told_of read) h.1 held) h.5

-- the folder was read after the pack was written into it, and the script that was played may ask where the program is
pub inspected_back : (before between after : Outside) (dir : Text) (m : Module) (pack : Written) (script : Text)
    (ls : List ScriptLine) (r : End)
    → between.out ≡ before.out → IsProgram m → Low m → Agrees m (pack_view pack) → Resumable m (pack_view pack) → IsDelivered before.files between.files dir m pack → where_script_read script ≡ lines ls
    → IsFolderInspected between after dir m ls r → IsInspectedBack before after dir m pack ls r
inspected_back before between after dir m pack script ls r same program low agrees resumable put e (inl h) =
    record {
      between = between;
      delivered = put;
      same_out = same;
      ends = inl (h.0, h.1, unread_untold between.files.content dir m pack h.0 put.holds h.1.0.0);
    }
inspected_back before between after dir m pack script ls r same program low agrees resumable put e (inr h) =
    record {
      between = between;
      delivered = put;
      same_out = same;
      ends = inr (record {
        inspected = h;
        tells = λ given. lines_tell_where m (pack_view h.pack) script ls h.played.report program low
            (read_agrees between.files.content dir m pack h.pack agrees put.holds h.read.0 given)
            (read_resumable between.files.content dir m pack h.pack resumable put.holds h.read.0 given) e h.played.is_report;
      });
    }

-- ---- a job refused before its turn

-- what became of a job of one module or pack
pub plain_answered : (job : Job) (before after : Outside) (r : End) → is_plain job ≡ true → IsFirst job before after r ⊎ IsDone job before after r → IsAnsweredJob job before after r
plain_answered (jobs.Compile file dir ns) before after r p h = h
plain_answered (jobs.Costs file dir ns) before after r p h = h
plain_answered (jobs.Run dir script) before after r p h = h
plain_answered (jobs.Exec file dir ns script) before after r p h = h
plain_answered (jobs.Inspect file dir ns script) before after r p h = h
plain_answered (jobs.Gen number size file dir) before after r p h = absurd cc
plain_answered (jobs.Join file dir ns script libraries) before after r p h = absurd cc
plain_answered (jobs.Multi script dirs) before after r p h = absurd cc

-- the file of the module or that of the script was refused
inputs_first : (job : Job) (before after : FilesState) (out : SinkState) (refusal : Refusal)
    → AreInputsRead job before after (Err refusal) → IsFirst job (outside before out) (outside after out) (Err refusal)
inputs_first job before after out (refusals.CannotRead p) h = (h.0, h.1, refl)
inputs_first job before after out (refusals.TooLong p c) h =
    (h.0, h.1, h.3, ap (λ f. outside f out) h.2)
inputs_first job before after out refusals.Memory h = ap (λ f. outside f out) h
inputs_first job before after out refusals.Usage h = absurd h
inputs_first job before after out (refusals.NotDecoded fault) h = absurd h
inputs_first job before after out (refusals.NotDecodedAt path fault) h = absurd h
inputs_first job before after out (refusals.NotLinked fault) h = absurd h
inputs_first job before after out (refusals.NotInProfile fault) h = absurd h
inputs_first job before after out (refusals.NotValid fault) h = absurd h
inputs_first job before after out (refusals.CannotList path) h = absurd h
inputs_first job before after out (refusals.CannotWrite path) h = absurd h
inputs_first job before after out refusals.Output h = absurd h
inputs_first job before after out refusals.NoMeta h = absurd h
inputs_first job before after out refusals.BadIndex h = absurd h
inputs_first job before after out (refusals.BadTag name) h = absurd h
inputs_first job before after out refusals.TooManyFiles h = absurd h
inputs_first job before after out (refusals.BadLine name line) h = absurd h
inputs_first job before after out (refusals.NoPackAt path fault) h = absurd h
inputs_first job before after out (refusals.SameSpace place) h = absurd h
inputs_first job before after out (refusals.Untidy path name line) h = absurd h
inputs_first job before after out (refusals.Script line low) h = absurd h
inputs_first job before after out (refusals.LowBudget line least) h = absurd h
inputs_first job before after out (refusals.Refused line cause) h = absurd h
inputs_first job before after out (refusals.NotEmpty name) h = absurd h

pub inputs_refused : (job : Job) (before after : FilesState) (out : SinkState) (refusal : Refusal)
    → is_plain job ≡ true → AreInputsRead job before after (Err refusal) → IsAnsweredJob job (outside before out) (outside after out) (Err refusal)
inputs_refused job before after out refusal p h =
    plain_answered job (outside before out) (outside after out) (Err refusal) p (inl (inputs_first job before after out refusal h))

-- what was read of the files
inputs_of : (job : Job) (before after : FilesState) (i : Inputs) → AreInputsRead job before after (Ok i) → HasInputs job before.content
inputs_of job before after i h = record { wasm = i.wasm; script = i.script; reads_wasm = h.1; reads_script = h.2 }

-- the script was refused
lines_first : (job : Job) (before after : FilesState) (out : SinkState) (i : Inputs) (refusal : Refusal)
    → AreInputsRead job before after (Ok i) → AreLinesRead (said_of job i.script) (Err refusal) → IsFirst job (outside before out) (outside after out) (Err refusal)
unfolding inputs_of
lines_first job before after out i (refusals.Script line low) r h =
    (inputs_of job before after i r, h, ap (λ f. outside f out) r.0)
lines_first job before after out i refusals.Memory r h = ap (λ f. outside f out) r.0
lines_first job before after out i (refusals.CannotRead path) r h = absurd h
lines_first job before after out i (refusals.TooLong path most) r h = absurd h
lines_first job before after out i refusals.Usage r h = absurd h
lines_first job before after out i (refusals.NotDecoded fault) r h = absurd h
lines_first job before after out i (refusals.NotDecodedAt path fault) r h = absurd h
lines_first job before after out i (refusals.NotLinked fault) r h = absurd h
lines_first job before after out i (refusals.NotInProfile fault) r h = absurd h
lines_first job before after out i (refusals.NotValid fault) r h = absurd h
lines_first job before after out i (refusals.CannotList path) r h = absurd h
lines_first job before after out i (refusals.CannotWrite path) r h = absurd h
lines_first job before after out i refusals.Output r h = absurd h
lines_first job before after out i refusals.NoMeta r h = absurd h
lines_first job before after out i refusals.BadIndex r h = absurd h
lines_first job before after out i (refusals.BadTag name) r h = absurd h
lines_first job before after out i refusals.TooManyFiles r h = absurd h
lines_first job before after out i (refusals.BadLine name line) r h = absurd h
lines_first job before after out i (refusals.NoPackAt path fault) r h = absurd h
lines_first job before after out i (refusals.SameSpace place) r h = absurd h
lines_first job before after out i (refusals.Untidy path name line) r h = absurd h
lines_first job before after out i (refusals.LowBudget line least) r h = absurd h
lines_first job before after out i (refusals.Refused line cause) r h = absurd h
lines_first job before after out i (refusals.NotEmpty name) r h = absurd h

pub lines_refused : (job : Job) (before after : FilesState) (out : SinkState) (i : Inputs) (refusal : Refusal)
    → is_plain job ≡ true → AreInputsRead job before after (Ok i) → AreLinesRead (said_of job i.script) (Err refusal) → IsAnsweredJob job (outside before out) (outside after out) (Err refusal)
lines_refused job before after out i refusal p r h =
    plain_answered job (outside before out) (outside after out) (Err refusal) p (inl (lines_first job before after out i refusal r h))

-- the module was refused
unlinked_first : (job : Job) (before after : Outside) (s : HasSource job before.files.content) (ns : Text) (r : End)
    → IsUnlinked before after s.inputs.wasm ns r → IsFirst job before after r
unlinked_first job before after s ns (Ok u) h = absurd h
unlinked_first job before after s ns (Err (refusals.NotDecoded fault)) h = (s, h.0, h.1)
unlinked_first job before after s ns (Err (refusals.NotInProfile fault)) h = (s, h.0, h.1)
unlinked_first job before after s ns (Err (refusals.NotValid fault)) h = (s, h.0, h.1)
unlinked_first job before after s ns (Err refusals.Memory) h = h.1
unlinked_first job before after s ns (Err (refusals.NotDecodedAt path fault)) h = absurd h.0
unlinked_first job before after s ns (Err (refusals.NotLinked fault)) h = absurd h.0
unlinked_first job before after s ns (Err (refusals.CannotRead path)) h = absurd h.0
unlinked_first job before after s ns (Err (refusals.TooLong path most)) h = absurd h.0
unlinked_first job before after s ns (Err refusals.Usage) h = absurd h.0
unlinked_first job before after s ns (Err (refusals.CannotList path)) h = absurd h.0
unlinked_first job before after s ns (Err (refusals.CannotWrite path)) h = absurd h.0
unlinked_first job before after s ns (Err refusals.Output) h = absurd h.0
unlinked_first job before after s ns (Err refusals.NoMeta) h = absurd h.0
unlinked_first job before after s ns (Err refusals.BadIndex) h = absurd h.0
unlinked_first job before after s ns (Err (refusals.BadTag name)) h = absurd h.0
unlinked_first job before after s ns (Err refusals.TooManyFiles) h = absurd h.0
unlinked_first job before after s ns (Err (refusals.BadLine name line)) h = absurd h.0
unlinked_first job before after s ns (Err (refusals.NoPackAt path fault)) h = absurd h.0
unlinked_first job before after s ns (Err (refusals.SameSpace place)) h = absurd h.0
unlinked_first job before after s ns (Err (refusals.Untidy path name line)) h = absurd h.0
unlinked_first job before after s ns (Err (refusals.LowBudget line least)) h = absurd h.0
unlinked_first job before after s ns (Err (refusals.Script line low)) h = absurd h.0
unlinked_first job before after s ns (Err (refusals.Refused line cause)) h = absurd h.0
unlinked_first job before after s ns (Err (refusals.NotEmpty name)) h = absurd h.0

-- there was no memory to link it
pub unlinked_memory : (before after : FilesState) (out : SinkState) (bytes ns : Text) (r : End)
    → IsErr r × IsErrAnd r (λ x. x ≡ refusals.Memory) → after ≡ before → IsUnlinked (outside before out) (outside after out) bytes ns r
unlinked_memory before after out bytes ns r e same =
    subst (λ (x : End). IsUnlinked (outside before out) (outside after out) bytes ns x) (sym (err_is r refusals.Memory e)) (tt, ap (λ f. outside f out) same)

-- ---- a job done

-- a job whose files were accepted
ended : (job : Job) (before after : Outside) (i : HasInputs job before.files.content) (ls : List ScriptLine) (r : End)
    → said_of job i.script ≡ lines ls → IsJobDone job before after i.wasm ls r → IsFirst job before after r ⊎ IsDone job before after r
ended (jobs.Compile file dir ns) before after i ls r e (inl h) =
    inl (unlinked_first (jobs.Compile file dir ns) before after (record { path = file; has_module = refl; inputs = i; is_script = (ls, e) }) ns r h)
ended (jobs.Compile file dir ns) before after i ls r e (inr (inl h)) =
    inr (h.source, ls, record { inputs = i; has_module = h.has_module; is_script = e }, inl h.ends)
ended (jobs.Compile file dir ns) before after i ls r e (inr (inr h)) =
    inr (h.is_pack.source, ls, record { inputs = i; has_module = h.is_pack.has_module; is_script = e }, inr (h.pack, record { is_pack = h.is_pack.is_pack; written = h.written }, h.ends))
ended (jobs.Costs file dir ns) before after i ls r e (inl h) =
    inl (unlinked_first (jobs.Costs file dir ns) before after (record { path = file; has_module = refl; inputs = i; is_script = (ls, e) }) ns r h)
ended (jobs.Costs file dir ns) before after i ls r e (inr (inl h)) =
    inr (h.source, ls, record { inputs = i; has_module = h.has_module; is_script = e }, inl h.ends)
ended (jobs.Costs file dir ns) before after i ls r e (inr (inr h)) =
    inr (h.is_pack.source, ls, record { inputs = i; has_module = h.is_pack.has_module; is_script = e }, inr (h.pack, record { is_pack = h.is_pack.is_pack; written = h.written }, h.ends))
ended (jobs.Run dir script) before after i ls r e h = inr (i, ls, e, h)
ended (jobs.Exec file dir ns script) before after i ls r e (inl h) =
    inl (unlinked_first (jobs.Exec file dir ns script) before after (record { path = file; has_module = refl; inputs = i; is_script = (ls, e) }) ns r h)
ended (jobs.Exec file dir ns script) before after i ls r e (inr (inl h)) =
    inr (h.source, ls, record { inputs = i; has_module = h.has_module; is_script = e }, inl h.ends)
ended (jobs.Exec file dir ns script) before after i ls r e (inr (inr h)) =
    inr (h.is_pack.source, ls, record { inputs = i; has_module = h.is_pack.has_module; is_script = e }, inr (h.pack, record { is_pack = h.is_pack.is_pack; written = h.written }, h.ends i.script e))
ended (jobs.Inspect file dir ns script) before after i ls r e (inl h) =
    inl (unlinked_first (jobs.Inspect file dir ns script) before after (record { path = file; has_module = refl; inputs = i; is_script = (ls, e) }) ns r h)
ended (jobs.Inspect file dir ns script) before after i ls r e (inr (inl h)) =
    inr (h.source, ls, record { inputs = i; has_module = h.has_module; is_script = e }, inl h.ends)
ended (jobs.Inspect file dir ns script) before after i ls r e (inr (inr h)) =
    inr (h.is_pack.source, ls, record { inputs = i; has_module = h.is_pack.has_module; is_script = e }, inr (h.pack, record { is_pack = h.is_pack.is_pack; written = h.written }, h.ends i.script e))
ended (jobs.Gen number size file dir) before after i ls r e h = absurd h
ended (jobs.Join file dir ns script libraries) before after i ls r e h = absurd h
ended (jobs.Multi script dirs) before after i ls r e h = absurd h

pub job_done : (job : Job) (before between : FilesState) (out : SinkState) (after : Outside) (i : Inputs) (ls : List ScriptLine) (r : End)
    → is_plain job ≡ true → AreInputsRead job before between (Ok i) → said_of job i.script ≡ lines ls → IsJobDone job (outside between out) after i.wasm ls r → IsAnsweredJob job (outside before out) after r
unfolding inputs_of
job_done job before between out after i ls r p read e h =
    plain_answered job (outside before out) after r p
    (ended job (outside before out) after (inputs_of job before between i read) ls r e
    (subst (λ (f : FilesState). IsJobDone job (outside f out) after i.wasm ls r) read.0 h))
