-- A run of `gen`, from its parts, and one that nothing refuses.
use Rattle.std.proofs.Common.{◌≡◌, ◌∙◌, sym, ap, refl, subst, ℕ, length, Ok, Err, Option, Some, inl, inr, ◌⊎◌, true}
use Rattle.std.specs.FinMap.{insert}
use Rattle.io_dev.specs.Faults.{Rose}
use Rattle.io_dev.specs.Files.{FilesState, IsFileWritten}
use Rattle.io_dev.specs.Folder.{Folder, IsFile, with_file}
use Rattle.io_dev.specs.Sink.{SinkState}
use Rattle.io_dev.specs.declared.answers.WriteAnswer.{WriteAnswer}
use Rattle.io_dev.specs.declared.answers.WriteAnswer.TheVariants as writes
use Rattle.mc_cmd.specs.Form.{Text}
use Rattle.mc_cmd.specs.Pack.{Pack}
use Rattle.mc_cmd.specs.Packing.{Written, is_written, pack_view}
use Rattle.app_workload.specs.Told.{IsWorkloadText}
use Rattle.pk_agree.specs.Agree.{Agrees}
use Rattle.pk_files.specs.Folder.{IsPackWritten, Leaves}
use Rattle.pk_files.specs.Put.{pack_files, put_all}
use Rattle.pk_files.specs.Told.{told_of}
use Rattle.pk_files.specs.declared.fault.GetFault.{GetFault}
use Rattle.pk_files.specs.declared.fault.GetFault.TheVariants as gets
use Rattle.pk_files.specs.declared.fault.PutFault.{PutFault}
use Rattle.pk_files.proofs.WrittenLemmas.{inserts, put_all-told}
use Rattle.pk_link.specs.Linked.{IsPackFor}
use Rattle.wm_ast.specs.declared.module.Module.{Module}
use Rattle.wm_gen.specs.Workload.{workload}
use Rattle.wm_gen.proofs.CodeLaws.{length_funcs}
use Rattle.app_top.specs.Complete.{IsEmpty, IsFaultless}
use Rattle.app_top.specs.Jobs.{End, IsDelivered, IsGivenBack, IsSaid, IsUndelivered, IsUnreadAgain, IsUntold}
use Rattle.app_top.specs.Outside.{Outside}
use Rattle.app_top.specs.Refusal.{of_put}
use Rattle.app_top.specs.Source.{HasModule}
use Rattle.app_top.specs.Workload.{IsTextOf, IsUnwritten, IsWorkloadAnswered, IsWorkloadPlayed, IsWorkloadPut, IsWorkloadTold, of_write, workload_bytes, workload_namespace}
use Rattle.app_top.specs.declared.refusal.Refusal.{Refusal}
use Rattle.app_top.specs.declared.refusal.Refusal.TheVariants as refusals
use Rattle.app_top.specs.steps.Run.{IsSourceRefused}
use Rattle.app_top.specs.steps.WorkloadRun.{IsFolderTold, IsPutAt}
use Rattle.app_top.proofs.DeliveredLemmas.{delivered}
use Rattle.app_top.proofs.FineLemmas.{IsFine, not_invalid, not_outside, not_undecoded, said_fine, undelivered_fine, unread_fine}
use Rattle.app_top.proofs.ProgramLemmas.{read_agrees, unread_untold}
use Rattle.app_top.proofs.WorkloadLemmas.{can_call_main, file_put, file_stays}

-- the bytes of a module that is taken are refused for want of memory alone
pub memory_alone : (bytes : Text) (m : Module) (refusal : Refusal) → HasModule bytes m → IsSourceRefused bytes refusal → refusal ≡ refusals.Memory
memory_alone bytes m refusals.Memory h r = refl
memory_alone bytes m (refusals.NotDecoded fault) h r = absurd (not_undecoded bytes m fault h.spells r)
memory_alone bytes m (refusals.NotInProfile fault) h r = absurd (not_outside bytes m fault h.spells h.in_profile r)
memory_alone bytes m (refusals.NotValid fault) h r = absurd (not_invalid bytes m fault h.spells h.valid h.low r)
memory_alone bytes m refusal h r = absurd r

-- ---- the pack is written, and read back

leaves_content : (before after : FilesState) (fault : GetFault) → Leaves before after fault → after.content ≡ before.content
leaves_content before after (gets.ListFailed path) h = h.same
leaves_content before after (gets.Failed path) h = h.same
leaves_content before after fault h = ap (λ (s : FilesState). s.content) h

-- whatever came of reading, it changed no file
told_content : (before after : Outside) (dir : Text) (bytes : ℕ) (m : Module) (r : End) → IsFolderTold before after dir bytes m r → after.files.content ≡ before.files.content
told_content before after dir bytes m r (inl u) = leaves_content before.files after.files u.0 u.1.0.1
told_content before after dir bytes m r (inr t) = ap (λ (s : FilesState). s.content) t.1.1

-- a workload has one function more than its size
with_functions : (number size : ℕ) (pack : Pack) (before after : Outside) (r : End)
    → ((r ≡ Err refusals.Memory) × (after.out ≡ before.out)) ⊎ ((text : Text) × IsWorkloadText (length (workload_bytes number size)) (length (workload number size).funcs) (workload number size) pack text × IsSaid text before.out after.out r)
    → ((r ≡ Err refusals.Memory) × (after.out ≡ before.out)) ⊎ ((text : Text) × IsTextOf number size pack text × IsSaid text before.out after.out r)
with_functions number size pack before after r (inl h) = inl h
with_functions number size pack before after r (inr h) =
    inr (h.0, subst (λ n. IsWorkloadText (length (workload_bytes number size)) n (workload number size) pack h.0) (length_funcs number size) h.1, h.2)

workload_played : (before between after : Outside) (content : Option Folder) (file dir : Text) (number size : ℕ) (pack : Written) (bytes : ℕ) (m : Module) (r : End)
    → IsPackFor workload_namespace (workload number size) pack → is_written pack ≡ true → before.files.content ≡ with_file content file (workload_bytes number size)
    → IsPackWritten before.files between.files dir pack (Ok tt) → between.out ≡ before.out
    → bytes ≡ length (workload_bytes number size) → m ≡ workload number size → IsFolderTold between after dir bytes m r → IsWorkloadPlayed before after file dir number size pack r
workload_played before between after content file dir number size pack bytes m r is_pack written put is_put same bytes_are m_is told =
    record {
      between = between;
      delivered = whole;
      same_out = same;
      ends = go (subst (λ (x : Module). IsFolderTold between after dir (length (workload_bytes number size)) x r) m_is (subst (λ n. IsFolderTold between after dir n m r) bytes_are told));
      is_file = subst (λ (o : Option Folder). IsFile o file (workload_bytes number size)) (sym (told_content between after dir bytes m r told ∙ ap (λ (s : FilesState). s.content) is_put.1))
          (file_stays before.files.content dir file (workload_bytes number size) (told_of pack) (subst (λ (o : Option Folder). IsFile o file (workload_bytes number size)) (sym put) (file_put content file (workload_bytes number size))) is_put.0.bare);
    }
  where
    whole : IsDelivered before.files between.files dir (workload number size) pack
    whole = record { written = is_put; holds = delivered before.files between.files dir workload_namespace (workload number size) pack written is_pack is_put }

    go : IsFolderTold between after dir (length (workload_bytes number size)) (workload number size) r → IsUnreadAgain between after dir r ⊎ IsWorkloadTold between after dir number size pack r
    go (inl u) = inl (u.0, u.1, unread_untold between.files.content dir (workload number size) pack u.0 whole.holds u.1.0.0)
    go (inr t) =
        let agrees : IsGivenBack between.files.content pack t.0 → Agrees (workload number size) (pack_view t.0) = λ given. read_agrees between.files.content dir (workload number size) pack t.0 is_pack.agrees whole.holds t.1.0 given in
        inr (record {
          read = t.0;
          is_read = t.1;
          agrees = agrees;
          called = λ given. can_call_main number size (pack_view t.0) (agrees given);
          told = with_functions number size (pack_view t.0) between after r t.2;
        })

-- ---- the whole, from its parts

-- the pack of a module that is the workload, under the namespace of workloads
pack_for : (number size : ℕ) (ns : Text) (m : Module) (pack : Written) → ns ≡ workload_namespace → m ≡ workload number size → IsPackFor ns m pack → IsPackFor workload_namespace (workload number size) pack
pack_for number size ns m pack e f h = subst (λ (x : Module). IsPackFor workload_namespace x pack) f (subst (λ (n : Text). IsPackFor n m pack) e h)

pub gen_unput : (number size : ℕ) (file dir : Text) (before after : Outside) (wasm ns : Text) (m : Module) (pack : Written) (refusal : Refusal)
    → ns ≡ workload_namespace → m ≡ workload number size → wasm ≡ workload_bytes number size → IsPackFor ns m pack → is_written pack ≡ true
    → IsPutAt before.files after.files file wasm (Err refusal) → after.out ≡ before.out → IsWorkloadAnswered number size file dir before after (Err refusal)
gen_unput number size file dir before after wasm ns m pack refusal ns_is m_is wasm_is is_pack written h same =
    let unput : IsPutAt before.files after.files file (workload_bytes number size) (Err refusal) = subst (λ (b : Text). IsPutAt before.files after.files file b (Err refusal)) wasm_is h in
    inr (record {
      pack = pack;
      is_pack = pack_for number size ns m pack ns_is m_is is_pack;
      written = written;
      ends = inl (unput.0, unput.1, same, ap Err unput.2);
    })

pub gen_undelivered : (number size : ℕ) (file dir : Text) (before between after : Outside) (wasm ns : Text) (m : Module) (pack : Written) (fault : PutFault)
    → ns ≡ workload_namespace → m ≡ workload number size → wasm ≡ workload_bytes number size → IsPackFor ns m pack → is_written pack ≡ true
    → IsPutAt before.files between.files file wasm (Ok tt) → between.out ≡ before.out → IsPackWritten between.files after.files dir pack (Err fault) → after.out ≡ between.out
    → IsWorkloadAnswered number size file dir before after (Err (of_put fault))
gen_undelivered number size file dir before between after wasm ns m pack fault ns_is m_is wasm_is is_pack written h same unwritten same_out =
    inr (record {
      pack = pack;
      is_pack = pack_for number size ns m pack ns_is m_is is_pack;
      written = written;
      ends = inr (record {
        between = between;
        put = subst (λ (b : Text). IsPutAt before.files between.files file b (Ok tt)) wasm_is h;
        same_out = same;
        ends = inl (fault, unwritten, same_out, refl);
      });
    })

pub gen_told : (number size : ℕ) (file dir : Text) (before between two after : Outside) (wasm ns : Text) (m : Module) (pack : Written) (r : End)
    → ns ≡ workload_namespace → m ≡ workload number size → wasm ≡ workload_bytes number size → IsPackFor ns m pack → is_written pack ≡ true
    → IsPutAt before.files between.files file wasm (Ok tt) → between.out ≡ before.out → IsPackWritten between.files two.files dir pack (Ok tt) → two.out ≡ between.out
    → IsFolderTold two after dir (length wasm) m r → IsWorkloadAnswered number size file dir before after r
gen_told number size file dir before between two after wasm ns m pack r ns_is m_is wasm_is is_pack written h same is_put same_out told =
    let is_pack' : IsPackFor workload_namespace (workload number size) pack = pack_for number size ns m pack ns_is m_is is_pack in
    let put : IsPutAt before.files between.files file (workload_bytes number size) (Ok tt) = subst (λ (b : Text). IsPutAt before.files between.files file b (Ok tt)) wasm_is h in
    inr (record {
      pack = pack;
      is_pack = is_pack';
      written = written;
      ends = inr (record {
        between = between;
        put = put;
        same_out = same;
        ends = inr (workload_played between two after before.files.content file dir number size pack (length wasm) m r is_pack' written (ap (λ (s : FilesState). s.content) put) is_put same_out (ap length wasm_is) m_is told);
      });
    })

-- ---- nothing refuses it

unwritten_fine : (before after : Outside) (path bytes : Text) (r : End) → IsFaultless before after → IsUnwritten before after path bytes r → IsFine r
unwritten_fine before after path bytes r f h = go h.0 h.1 h.3
  where
    go : (fault : WriteAnswer) → IsFileWritten before.files after.files path bytes (Err fault) → r ≡ Err (of_write path fault) → IsFine r
    go writes.Failed w e = absurd (f.writes w.counted)
    go writes.Memory w e = inr e

played_fine : (before after : Outside) (folder : Folder) (file dir : Text) (number size : ℕ) (pack : Written) (r : End)
    → before.files.content ≡ Some folder → IsFaultless before after → IsWorkloadPlayed before after file dir number size pack r → IsFine r
played_fine before after folder file dir number size pack r e f h = go h.ends
  where
    written : h.between.files ≡ record before.files { content = put_all before.files.content (pack_files dir (told_of pack)) }
    written = h.delivered.written.1

    told : h.between.files.content ≡ Some (inserts folder (pack_files dir (told_of pack)))
    told = ap (λ (s : FilesState). s.content) written ∙ ap (λ (c : Option Folder). put_all c (pack_files dir (told_of pack))) e ∙ put_all-told folder (pack_files dir (told_of pack))

    reads : ¬ Rose h.between.files.read_faults after.files.read_faults
    reads = subst (λ (n : ℕ). ¬ Rose n after.files.read_faults) (sym (ap (λ (s : FilesState). s.read_faults) written)) f.reads

    output : ¬ Rose h.between.out.faults after.out.faults
    output = subst (λ (s : SinkState). ¬ Rose s.faults after.out.faults) (sym h.same_out) f.output

    said : (text : Text) → IsSaid text h.between.out after.out r → IsFine r
    said text s = said_fine text h.between.out after.out r output s

    go : IsUnreadAgain h.between after dir r ⊎ IsWorkloadTold h.between after dir number size pack r → IsFine r
    go (inl u) = unread_fine h.between after dir u.0 r reads (subst (λ (c : Option Folder). IsUntold c u.0) told u.2) u.1
    go (inr t) = elim t.told [ inl m ↦ inr m.0 | inr s ↦ said s.0 s.2 ]

put_fine : (before after : Outside) (folder : Folder) (file dir : Text) (number size : ℕ) (pack : Written) (r : End)
    → before.files.content ≡ Some folder → IsEmpty (insert folder file (workload_bytes number size)) dir → IsFaultless before after → IsWorkloadPut before after file dir number size pack r → IsFine r
put_fine before after folder file dir number size pack r e bare f h = go h.ends
  where
    told : h.between.files.content ≡ Some (insert folder file (workload_bytes number size))
    told = ap (λ (s : FilesState). s.content) h.put ∙ ap (λ (c : Option Folder). with_file c file (workload_bytes number size)) e

    faultless : IsFaultless h.between after
    faultless = record {
      reads = subst (λ (n : ℕ). ¬ Rose n after.files.read_faults) (sym (ap (λ (s : FilesState). s.read_faults) h.put)) f.reads;
      writes = subst (λ (n : ℕ). ¬ Rose n after.files.write_faults) (sym (ap (λ (s : FilesState). s.write_faults) h.put)) f.writes;
      output = subst (λ (s : SinkState). ¬ Rose s.faults after.out.faults) (sym h.same_out) f.output;
    }

    go : IsUndelivered h.between after dir pack r ⊎ IsWorkloadPlayed h.between after file dir number size pack r → IsFine r
    go (inl u) = undelivered_fine h.between after (insert folder file (workload_bytes number size)) dir pack r told bare faultless u
    go (inr p) = played_fine h.between after (insert folder file (workload_bytes number size)) file dir number size pack r told faultless p

pub gen_fine : (number size : ℕ) (file dir : Text) (before after : Outside) (folder : Folder) (r : End)
    → before.files.content ≡ Some folder → IsEmpty (insert folder file (workload_bytes number size)) dir → IsFaultless before after → IsWorkloadAnswered number size file dir before after r → IsFine r
gen_fine number size file dir before after folder r e bare f (inl h) = inr h.0
gen_fine number size file dir before after folder r e bare f (inr h) =
    elim h.ends [ inl u ↦ unwritten_fine before after file (workload_bytes number size) r f u | inr p ↦ put_fine before after folder file dir number size h.pack r e bare f p ]
