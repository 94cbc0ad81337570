-- A run that nothing refuses: what its words name is in order, and no call fails.
use Rattle.std.proofs.Common.{◌≡◌, ◌∙◌, sym, ap, refl, subst, ℕ, ◌<◌, ◌≤◌, ◌^◌, List, [], ◌∷◌, length, Ok, Err, Option, Some, None, inl, inr, ◌⊎◌, Bool, false, true, arith}
use Rattle.std.proofs.lemmas.Bool.{leb-true}
use Rattle.std.proofs.lemmas.Fmt.{decimal_injective}
use Rattle.std.specs.Fmt.{decimal}
use Rattle.std.specs.Prelude.{nat_le, ◌&&◌, codes}
use Rattle.std.specs.Str.{bytes_eq}
use Rattle.io_dev.specs.Folder.{Folder, IsLonger, Reads}
use Rattle.io_dev.specs.Sink.{SinkState}
use Rattle.mc_cmd.specs.Form.{Text}
use Rattle.mc_cmd.specs.Packing.{Written}
use Rattle.mc_cmd.proofs.FormLemmas.{some_same, and_first, and_second}
use Rattle.wm_ast.specs.declared.module.Module.{Module}
use Rattle.app_words.specs.Act.{ScriptLine}
use Rattle.app_words.specs.Script.{script_read, lines}
use Rattle.app_words.specs.WhereScript.{where_script_read}
use Rattle.app_words.specs.Words.{ReadsWords, job_words, is_workload_number, is_workload_size, job_fits, pair_words}
use Rattle.app_words.specs.declared.command_line.Job.{Job}
use Rattle.app_words.specs.declared.command_line.Job.TheVariants as jobs
use Rattle.app_words.specs.declared.named_files.NamedFile.{NamedFile}
use Rattle.app_report.specs.Costs.{costs_text}
use Rattle.pk_files.specs.Folder.{IsPackRead}
use Rattle.pk_files.specs.Held.{Holds, IsRefused, is_told}
use Rattle.pk_files.specs.Told.{Told, told_of}
use Rattle.pk_files.specs.declared.fault.GetFault.{GetFault}
use Rattle.pk_files.specs.declared.fault.GetFault.TheVariants as gets
use Rattle.pk_files.proofs.HeldLemmas.{holds_one, not_refused}
use Rattle.app_top.specs.Complete.{HasModuleAt, HasScriptAt, HasScriptSaid, HasWhereScriptAt, IsDoneOrMemory, IsEmpty, IsFaultless, IsInOrder, IsJobInOrder, IsPlayable}
use Rattle.app_top.specs.Outside.{Outside}
use Rattle.app_top.specs.Source.{HasModule}
use Rattle.app_top.specs.Jobs.{End, HasSource, IsDone, IsFirst, IsInput, IsNextInput, IsRunEnd, IsTellingEnd, file_cap, files_line, module_of, said_of, script_of}
use Rattle.app_top.specs.Top.{Ends, IsAnswered, IsRun, IsUsage, IsWordless, Tells, IsAnsweredJob}
use Rattle.app_top.specs.declared.refusal.Refusal.TheVariants as refusals
use Rattle.app_top.specs.declared.refusal.Status.{Status}
use Rattle.app_top.specs.steps.Run.{is_plain}
use Rattle.app_top.proofs.FineLemmas.{IsFine, none_some, not_invalid, not_outside, not_undecoded, said_fine, true_false, undelivered_fine, unread_fine, unseen_fine}
use Rattle.app_top.proofs.JoinFine.{join_fine}
use Rattle.app_top.proofs.SharedFine.{shared_fine}
use Rattle.app_top.proofs.PlayedLemmas.{exec_fine, inspect_fine, not_bad, not_longer, reported_fine, said_lines, same_bytes, same_lines}
use Rattle.app_top.proofs.WorkloadEnds.{gen_fine}

-- ---- what is read first

-- the module and the script of a job, where it has them, are there
record AreInputsThere (job : Job) (folder : Folder) : Type 0 where
  wasm : (path : Text) → module_of job ≡ Some path → HasModuleAt folder path
  script : (path : Text) → script_of job ≡ Some path → (ls : List ScriptLine) × HasScriptSaid (said_of job) folder path ls

inputs_there : (job : Job) (folder : Folder) (after : Option Folder) → is_plain job ≡ true → IsJobInOrder job folder after → AreInputsThere job folder
inputs_there (jobs.Compile file dir ns) folder after p h =
    record {
      wasm = λ path e. subst (λ (p : Text). HasModuleAt folder p) (some_same file path e) h.0;
      script = λ path e. absurd (none_some path e);
    }
inputs_there (jobs.Costs file dir ns) folder after p h =
    record {
      wasm = λ path e. subst (λ (p : Text). HasModuleAt folder p) (some_same file path e) h.0;
      script = λ path e. absurd (none_some path e);
    }
inputs_there (jobs.Run dir script) folder after p h =
    record {
      wasm = λ path e. absurd (none_some path e);
      script = λ path e. (h.0, subst (λ (p : Text). HasScriptAt folder p h.0) (some_same script path e) h.1);
    }
inputs_there (jobs.Exec file dir ns script) folder after p h =
    record {
      wasm = λ path e. subst (λ (p : Text). HasModuleAt folder p) (some_same file path e) h.0;
      script = λ path e. (h.2.0, subst (λ (p : Text). HasScriptAt folder p h.2.0) (some_same script path e) h.2.1);
    }
inputs_there (jobs.Inspect file dir ns script) folder after p h =
    record {
      wasm = λ path e. subst (λ (p : Text). HasModuleAt folder p) (some_same file path e) h.0;
      script = λ path e. (h.2.0, subst (λ (p : Text). HasWhereScriptAt folder p h.2.0) (some_same script path e) h.2.1);
    }
inputs_there (jobs.Gen number size file dir) folder after p h = absurd cc
inputs_there (jobs.Join file dir ns script libraries) folder after p h = absurd cc
inputs_there (jobs.Multi script dirs) folder after p h = absurd cc

inputs_short : (job : Job) (folder : Folder) (content : Option Folder) (p : Text) → AreInputsThere job folder → IsNextInput job content p → IsLonger (Some folder) p file_cap → ⊥
inputs_short job folder content p i (inl e) long =
    let m = i.wasm p e in
    not_longer folder p m.bytes file_cap m.reads long
inputs_short job folder content p i (inr s) long =
    let m = i.script p s.0 in
    not_longer folder p m.1.bytes file_cap m.1.reads long

read_module : (folder : Folder) (o : Option Text) (bytes : Text) → ((path : Text) → o ≡ Some path → HasModuleAt folder path) → IsInput (Some folder) o bytes → (path : Text) → o ≡ Some path
    → (m : Module) × HasModule bytes m
read_module folder None bytes m i path e = absurd (none_some path e)
read_module folder (Some p) bytes m i path e =
    let found = m p refl in
    (found.source, subst (λ (b : Text). HasModule b found.source) (same_bytes folder p found.bytes bytes file_cap found.reads i) found.has_module)

-- the empty text has no line that does something
none_said : (job : Job) → said_of job [] ≡ lines []
none_said (jobs.Compile file dir ns) = refl
none_said (jobs.Costs file dir ns) = refl
none_said (jobs.Run dir script) = refl
none_said (jobs.Exec file dir ns script) = refl
none_said (jobs.Gen number size file dir) = refl
none_said (jobs.Join file dir ns script libraries) = refl
none_said (jobs.Multi script dirs) = refl
none_said (jobs.Inspect file dir ns script) = refl

read_script : (job : Job) (folder : Folder) (o : Option Text) (bytes : Text) → ((path : Text) → o ≡ Some path → (ls : List ScriptLine) × HasScriptSaid (said_of job) folder path ls) → IsInput (Some folder) o bytes
    → (ls : List ScriptLine) × (said_of job bytes ≡ lines ls)
read_script job folder None bytes s i = ([], ap (said_of job) i ∙ none_said job)
read_script job folder (Some p) bytes s i =
    let found = s p refl in
    (found.0, ap (said_of job) (same_bytes folder p bytes found.1.bytes file_cap i found.1.reads) ∙ found.1.is_script)

source_module : (job : Job) (folder : Folder) (content : Option Folder) → content ≡ Some folder → AreInputsThere job folder → (s : HasSource job content)
    → (m : Module) × HasModule s.inputs.wasm m
source_module job folder content e i s =
    read_module folder (module_of job) s.inputs.wasm i.wasm (subst (λ (o : Option Folder). IsInput o (module_of job) s.inputs.wasm) e s.inputs.reads_wasm) s.path s.has_module

-- a job whose files are in order isn't refused before its turn
first_fine : (job : Job) (folder : Folder) (before after : Outside) (r : End) → before.files.content ≡ Some folder → AreInputsThere job folder → IsFaultless before after → IsFirst job before after r → IsFine r
first_fine job folder before after (Ok u) e i f h = absurd h
first_fine job folder before after (Err refusals.Memory) e i f h = inr refl
first_fine job folder before after (Err (refusals.CannotRead p)) e i f h = absurd (f.reads h.1.counted)
first_fine job folder before after (Err (refusals.TooLong p c)) e i f h =
    absurd (inputs_short job folder before.files.content p i h.0 (subst (λ (o : Option Folder). IsLonger o p file_cap) e (subst (λ (n : ℕ). IsLonger before.files.content p n) h.1 h.2)))
first_fine job folder before after (Err (refusals.Script n low)) e i f h =
    let s = read_script job folder (script_of job) h.0.script i.script (subst (λ (o : Option Folder). IsInput o (script_of job) h.0.script) e h.0.reads_script) in
    absurd (not_bad n low s.0 (sym h.1 ∙ s.1))
first_fine job folder before after (Err (refusals.NotDecoded fault)) e i f h =
    let g = source_module job folder before.files.content e i h.0 in
    absurd (not_undecoded h.0.inputs.wasm g.0 fault g.1.spells h.1)
first_fine job folder before after (Err (refusals.NotInProfile fault)) e i f h =
    let g = source_module job folder before.files.content e i h.0 in
    absurd (not_outside h.0.inputs.wasm g.0 fault g.1.spells g.1.in_profile h.1)
first_fine job folder before after (Err (refusals.NotValid fault)) e i f h =
    let g = source_module job folder before.files.content e i h.0 in
    absurd (not_invalid h.0.inputs.wasm g.0 fault g.1.spells g.1.valid g.1.low h.1)
first_fine job folder before after (Err refusal) e i f h = absurd h

-- ---- a pack that is written

telling_fine : (text : Text) (before after : Outside) (folder : Folder) (dir : Text) (m : Module) (pack : Written) (r : End)
    → before.files.content ≡ Some folder → IsEmpty folder dir → IsFaultless before after → IsTellingEnd text dir m pack before after r → IsFine r
telling_fine text before after folder dir m pack r e bare f (inl h) = undelivered_fine before after folder dir pack r e bare f h
telling_fine text before after folder dir m pack r e bare f (inr h) = said_fine text before.out after.out r f.output h.1

-- ---- a pack that is read and played

-- a fault of reading a folder that holds a pack isn't told by its files
held_untold : (folder : Folder) (content : Option Folder) (dir : Text) (t : Told) (fault : GetFault) → content ≡ Some folder → Holds (Some folder) dir t → (fault ≡ gets.Memory) ⊎ IsRefused content dir fault → is_told fault ≡ false
held_untold folder content dir t fault e h (inl m) = ap is_told m
held_untold folder content dir t fault e h (inr r) =
    not_refused folder dir t fault h (subst (λ (o : Option Folder). IsRefused o dir fault) e r)

run_fine : (dir script : Text) (before after : Outside) (folder : Folder) (r : End)
    → before.files.content ≡ Some folder → IsJobInOrder (jobs.Run dir script) folder after.files.content → IsFaultless before after → IsRunEnd (jobs.Run dir script) dir before after r → IsFine r
run_fine dir script before after folder r e o f (i, ls, is_script, inl u) =
    unread_fine before after dir u.0 r f.reads (held_untold folder before.files.content dir o.2.0 u.0 e o.2.1 u.1.0.0) u.1
run_fine dir script before after folder r e o f (i, ls, is_script, inr p) = reported_fine before after dir ls r f.output over p
  where
    alike : o.0 ≡ ls
    alike = same_lines folder script i.script o.0 ls o.1 (subst (λ (c : Option Folder). Reads c script file_cap i.script) e i.reads_script) is_script

    over : (w : Written) → IsPackRead before.files after.files dir (Ok w) → IsPlayable (told_of w) ls
    over w read =
        let same = holds_one folder dir o.2.0 (told_of w) o.2.1 (subst (λ (c : Option Folder). Holds c dir (told_of w)) e read.0) in
        subst (λ (ks : List ScriptLine). IsPlayable (told_of w) ks) alike (subst (λ (t : Told). IsPlayable t o.0) same o.2.2)

-- ---- a job, and a run

done_fine : (job : Job) (before after : Outside) (folder : Folder) (r : End) → before.files.content ≡ Some folder → IsJobInOrder job folder after.files.content → IsFaultless before after → IsDone job before after r → IsFine r
done_fine (jobs.Compile file dir ns) before after folder r e o f (m, ls, has, inl u) = unseen_fine before after folder dir r e o.1 f u
done_fine (jobs.Compile file dir ns) before after folder r e o f (m, ls, has, inr (pack, linked, h)) =
    telling_fine (files_line pack) before after folder dir m pack r e o.1 f h
done_fine (jobs.Costs file dir ns) before after folder r e o f (m, ls, has, inl u) = unseen_fine before after folder dir r e o.1 f u
done_fine (jobs.Costs file dir ns) before after folder r e o f (m, ls, has, inr (pack, linked, h)) =
    telling_fine (costs_text pack (length m.funcs)) before after folder dir m pack r e o.1 f h
done_fine (jobs.Run dir script) before after folder r e o f h = run_fine dir script before after folder r e o f h
done_fine (jobs.Exec file dir ns script) before after folder r e o f (m, ls, has, inl u) = unseen_fine before after folder dir r e o.1 f u
done_fine (jobs.Exec file dir ns script) before after folder r e o f (m, ls, has, inr (pack, linked, h)) =
    let inputs = has.inputs in
    let alike = same_lines folder script inputs.script o.2.0 ls o.2.1 (subst (λ (c : Option Folder). Reads c script file_cap inputs.script) e inputs.reads_script) has.is_script in
    exec_fine before after folder dir m pack ls r e o.1 (subst (λ (ks : List ScriptLine). (t : Told) → Holds after.files.content dir t → IsPlayable t ks) alike o.2.2) f h
done_fine (jobs.Inspect file dir ns script) before after folder r e o f (m, ls, has, inl u) = unseen_fine before after folder dir r e o.1 f u
done_fine (jobs.Inspect file dir ns script) before after folder r e o f (m, ls, has, inr (pack, linked, h)) =
    let inputs = has.inputs in
    let alike = said_lines where_script_read folder script inputs.script o.2.0 ls o.2.1 (subst (λ (c : Option Folder). Reads c script file_cap inputs.script) e inputs.reads_script) has.is_script in
    inspect_fine before after folder dir m pack ls r e o.1 (subst (λ (ks : List ScriptLine). (t : Told) → Holds after.files.content dir t → IsPlayable t ks) alike o.2.2) f h
done_fine (jobs.Gen number size file dir) before after folder r e o f h = absurd h
done_fine (jobs.Join file dir ns script libraries) before after folder r e o f h = absurd h
done_fine (jobs.Multi script dirs) before after folder r e o f h = absurd h

-- a job of one module or pack that is in order
plain_fine : (job : Job) (before after : Outside) (folder : Folder) (r : End)
    → is_plain job ≡ true → before.files.content ≡ Some folder → IsJobInOrder job folder after.files.content → IsFaultless before after → IsFirst job before after r ⊎ IsDone job before after r → IsFine r
plain_fine job before after folder r p e o f (inl h) = first_fine job folder before after r e (inputs_there job folder after.files.content p o) f h
plain_fine job before after folder r p e o f (inr h) = done_fine job before after folder r e o f h

job_fine : (job : Job) (before after : Outside) (folder : Folder) (r : End) → before.files.content ≡ Some folder → IsJobInOrder job folder after.files.content → IsFaultless before after → IsAnsweredJob job before after r → IsFine r
job_fine (jobs.Compile file dir ns) before after folder r e o f h = plain_fine (jobs.Compile file dir ns) before after folder r refl e o f h
job_fine (jobs.Costs file dir ns) before after folder r e o f h = plain_fine (jobs.Costs file dir ns) before after folder r refl e o f h
job_fine (jobs.Run dir script) before after folder r e o f h = plain_fine (jobs.Run dir script) before after folder r refl e o f h
job_fine (jobs.Exec file dir ns script) before after folder r e o f h = plain_fine (jobs.Exec file dir ns script) before after folder r refl e o f h
job_fine (jobs.Inspect file dir ns script) before after folder r e o f h = plain_fine (jobs.Inspect file dir ns script) before after folder r refl e o f h
job_fine (jobs.Gen number size file dir) before after folder r e o f h = gen_fine number size file dir before after folder r e o f h
job_fine (jobs.Join file dir ns script libraries) before after folder r e o f h = join_fine file dir ns script libraries o.2.0 before after folder r e o.0 o.1 o.2.1 o.2.2 f h
job_fine (jobs.Multi script dirs) before after folder r e o f h = shared_fine script dirs before after folder r e o f h

-- the words of a job name no other one
pairs_same : (ls ks : List NamedFile) → pair_words ls ≡ pair_words ks → ls ≡ ks
pairs_same [] [] e = refl
pairs_same [] (k ∷ ks) e = absurd cc
pairs_same (l ∷ ls) [] e = absurd cc
pairs_same (l ∷ ls) (k ∷ ks) e =
    let name : l.name ≡ k.name = cc in
    let file : l.file ≡ k.file = cc in
    let rest : pair_words ls ≡ pair_words ks = cc in
    ap (λ (n : Text). let x : NamedFile = record { name = n; file = l.file } in x ∷ ls) name
    ∙ ap (λ (n : Text). let x : NamedFile = record { name = k.name; file = n } in x ∷ ls) file
    ∙ ap (λ x. k ∷ x) (pairs_same ls ks rest)

few_64 : (n : ℕ) (b : Bool) → (is_workload_number n && b) ≡ true → n < 2 ^ 64
few_64 n b h = let le : n ≤ 18446744073709551615 = leb-true _ _ (and_first _ b h) in omega (arith, le)

few_1000 : (n : ℕ) (b : Bool) → (b && is_workload_size n) ≡ true → n < 2 ^ 64
few_1000 n b h = let le : n ≤ 1000 = leb-true _ _ (and_second (nat_le 1 n) _ (and_second b _ h)) in omega (arith, le)

-- the first word is that of `join`
abbrev is_join : List Text → Bool
is_join [] = false
is_join (w ∷ ws) = bytes_eq w (codes "join")

-- the first word is that of `multi`
abbrev is_multi : List Text → Bool
is_multi [] = false
is_multi (w ∷ ws) = bytes_eq w (codes "multi")

one_job : (p q : Job) → job_fits p ≡ true → job_fits q ≡ true → job_words p ≡ job_words q → p ≡ q
one_job (jobs.Compile file dir ns) (jobs.Compile f d n) p q e = cc
one_job (jobs.Compile file dir ns) (jobs.Costs f d n) p q e = cc
one_job (jobs.Compile file dir ns) (jobs.Run d s) p q e = cc
one_job (jobs.Compile file dir ns) (jobs.Exec f d n s) p q e = cc
one_job (jobs.Compile file dir ns) (jobs.Gen m n f d) p q e = cc
one_job (jobs.Compile file dir ns) (jobs.Join f d n s ls) p q e = absurd (true_false (sym (ap is_join e)))
one_job (jobs.Compile file dir ns) (jobs.Multi s ds) p q e = absurd (true_false (sym (ap is_multi e)))
one_job (jobs.Compile file dir ns) (jobs.Inspect f d n s) p q e = cc
one_job (jobs.Costs file dir ns) (jobs.Compile f d n) p q e = cc
one_job (jobs.Costs file dir ns) (jobs.Costs f d n) p q e = cc
one_job (jobs.Costs file dir ns) (jobs.Run d s) p q e = cc
one_job (jobs.Costs file dir ns) (jobs.Exec f d n s) p q e = cc
one_job (jobs.Costs file dir ns) (jobs.Gen m n f d) p q e = cc
one_job (jobs.Costs file dir ns) (jobs.Join f d n s ls) p q e = absurd (true_false (sym (ap is_join e)))
one_job (jobs.Costs file dir ns) (jobs.Multi s ds) p q e = absurd (true_false (sym (ap is_multi e)))
one_job (jobs.Costs file dir ns) (jobs.Inspect f d n s) p q e = cc
one_job (jobs.Run dir script) (jobs.Compile f d n) p q e = cc
one_job (jobs.Run dir script) (jobs.Costs f d n) p q e = cc
one_job (jobs.Run dir script) (jobs.Run d s) p q e = cc
one_job (jobs.Run dir script) (jobs.Exec f d n s) p q e = cc
one_job (jobs.Run dir script) (jobs.Gen m n f d) p q e = cc
one_job (jobs.Run dir script) (jobs.Join f d n s ls) p q e = absurd (true_false (sym (ap is_join e)))
one_job (jobs.Run dir script) (jobs.Multi s ds) p q e = absurd (true_false (sym (ap is_multi e)))
one_job (jobs.Run dir script) (jobs.Inspect f d n s) p q e = cc
one_job (jobs.Exec file dir ns script) (jobs.Compile f d n) p q e = cc
one_job (jobs.Exec file dir ns script) (jobs.Costs f d n) p q e = cc
one_job (jobs.Exec file dir ns script) (jobs.Run d s) p q e = cc
one_job (jobs.Exec file dir ns script) (jobs.Exec f d n s) p q e = cc
one_job (jobs.Exec file dir ns script) (jobs.Gen m n f d) p q e = cc
one_job (jobs.Exec file dir ns script) (jobs.Join f d n s ls) p q e = absurd (true_false (sym (ap is_join e)))
one_job (jobs.Exec file dir ns script) (jobs.Multi s ds) p q e = absurd (true_false (sym (ap is_multi e)))
one_job (jobs.Exec file dir ns script) (jobs.Inspect f d n s) p q e = cc
one_job (jobs.Gen number size file dir) (jobs.Compile f d n) p q e = cc
one_job (jobs.Gen number size file dir) (jobs.Costs f d n) p q e = cc
one_job (jobs.Gen number size file dir) (jobs.Run d s) p q e = cc
one_job (jobs.Gen number size file dir) (jobs.Exec f d n s) p q e = cc
one_job (jobs.Gen number size file dir) (jobs.Gen m n f d) p q e =
    let numbers : decimal number ≡ decimal m = cc in
    let sizes : decimal size ≡ decimal n = cc in
    let files : file ≡ f = cc in
    let dirs : dir ≡ d = cc in
    ap (λ k. jobs.Gen k size file dir) (decimal_injective number m (few_64 number (is_workload_size size) p) (few_64 m (is_workload_size n) q) numbers)
    ∙ ap (λ k. jobs.Gen m k file dir) (decimal_injective size n (few_1000 size (is_workload_number number) p) (few_1000 n (is_workload_number m) q) sizes)
    ∙ ap (λ k. jobs.Gen m n k dir) files
    ∙ ap (jobs.Gen m n f) dirs
one_job (jobs.Gen number size file dir) (jobs.Join f d n s ls) p q e = absurd (true_false (sym (ap is_join e)))
one_job (jobs.Gen number size file dir) (jobs.Multi s ds) p q e = absurd (true_false (sym (ap is_multi e)))
one_job (jobs.Gen number size file dir) (jobs.Inspect f d n s) p q e = cc
one_job (jobs.Join file dir ns script libraries) (jobs.Compile f d n) p q e = absurd (true_false (ap is_join e))
one_job (jobs.Join file dir ns script libraries) (jobs.Costs f d n) p q e = absurd (true_false (ap is_join e))
one_job (jobs.Join file dir ns script libraries) (jobs.Run d s) p q e = absurd (true_false (ap is_join e))
one_job (jobs.Join file dir ns script libraries) (jobs.Exec f d n s) p q e = absurd (true_false (ap is_join e))
one_job (jobs.Join file dir ns script libraries) (jobs.Gen m n f d) p q e = absurd (true_false (ap is_join e))
one_job (jobs.Join file dir ns script libraries) (jobs.Join f d n s ls) p q e =
    let pairs : pair_words libraries ≡ pair_words ls = cc in
    let files : file ≡ f = cc in
    let dirs : dir ≡ d = cc in
    let names : ns ≡ n = cc in
    let scripts : script ≡ s = cc in
    ap (λ k. jobs.Join k dir ns script libraries) files
    ∙ ap (λ k. jobs.Join f k ns script libraries) dirs
    ∙ ap (λ k. jobs.Join f d k script libraries) names
    ∙ ap (λ k. jobs.Join f d n k libraries) scripts
    ∙ ap (jobs.Join f d n s) (pairs_same libraries ls pairs)
one_job (jobs.Join file dir ns script libraries) (jobs.Multi s ds) p q e = absurd (true_false (sym (ap is_multi e)))
one_job (jobs.Join file dir ns script libraries) (jobs.Inspect f d n s) p q e = absurd (true_false (ap is_join e))
one_job (jobs.Multi script dirs) (jobs.Compile f d n) p q e = absurd (true_false (ap is_multi e))
one_job (jobs.Multi script dirs) (jobs.Costs f d n) p q e = absurd (true_false (ap is_multi e))
one_job (jobs.Multi script dirs) (jobs.Run d s) p q e = absurd (true_false (ap is_multi e))
one_job (jobs.Multi script dirs) (jobs.Exec f d n s) p q e = absurd (true_false (ap is_multi e))
one_job (jobs.Multi script dirs) (jobs.Gen m n f d) p q e = absurd (true_false (ap is_multi e))
one_job (jobs.Multi script dirs) (jobs.Join f d n s ls) p q e = absurd (true_false (ap is_multi e))
one_job (jobs.Multi script dirs) (jobs.Multi s ds) p q e =
    let scripts : script ≡ s = cc in
    let folders : dirs ≡ ds = cc in
    ap (λ k. jobs.Multi k dirs) scripts ∙ ap (jobs.Multi s) folders
one_job (jobs.Multi script dirs) (jobs.Inspect f d n s) p q e = absurd (true_false (ap is_multi e))
one_job (jobs.Inspect file dir ns script) (jobs.Compile f d n) p q e = cc
one_job (jobs.Inspect file dir ns script) (jobs.Costs f d n) p q e = cc
one_job (jobs.Inspect file dir ns script) (jobs.Run d s) p q e = cc
one_job (jobs.Inspect file dir ns script) (jobs.Exec f d n s) p q e = cc
one_job (jobs.Inspect file dir ns script) (jobs.Gen m n f d) p q e = cc
one_job (jobs.Inspect file dir ns script) (jobs.Join f d n s ls) p q e = absurd (true_false (sym (ap is_join e)))
one_job (jobs.Inspect file dir ns script) (jobs.Multi s ds) p q e = absurd (true_false (sym (ap is_multi e)))
one_job (jobs.Inspect file dir ns script) (jobs.Inspect f d n s) p q e = cc

not_usage : (ws : List Text) (before after : Outside) (r : End) (job : Job) → ReadsWords ws (Ok job) → IsUsage ws before after r → ⊥
not_usage ws before after (Err refusals.Usage) job j h = h.0 job j.1 j.0
not_usage ws before after r job j h = h

wordless_fine : (before after : Outside) (r : End) → IsWordless before after r → IsFine r
wordless_fine before after (Err refusals.Memory) h = inr refl
wordless_fine before after r h = absurd h

answered_fine : (ws : List Text) (before after : Outside) (r : End) → IsInOrder ws before after → IsAnswered ws before after r → IsFine r
answered_fine ws before after r o a =
    let same : o.job ≡ a.job = one_job o.job a.job o.is_job.1 a.is_job.1 (sym o.is_job.0 ∙ a.is_job.0) in
    job_fine a.job before after o.folder r o.told (subst (λ (job : Job). IsJobInOrder job o.folder after.files.content) same o.in_order) o.faultless a.answered

ended_fine : (ws : List Text) (before after : Outside) (r : End) → IsInOrder ws before after → Ends ws before after r → IsFine r
ended_fine ws before after r o (inl h) = absurd (not_usage ws before after r o.job o.is_job h)
ended_fine ws before after r o (inr (inl h)) = wordless_fine before after r h
ended_fine ws before after r o (inr (inr h)) = answered_fine ws before after r o h

status_fine : (r : End) (before after : SinkState) (s : Status) → IsFine r → Tells r before after s → IsDoneOrMemory s
status_fine r before after s (inl e) t =
    let d : Tells (Ok tt) before after s = subst (λ (x : End). Tells x before after s) e t in
    inl d.0
status_fine r before after s (inr e) t =
    let d : Tells (Err refusals.Memory) before after s = subst (λ (x : End). Tells x before after s) e t in
    elim d [ inl h ↦ inr h.0 | inr h ↦ inr h.0 ]

-- a run whose words name what is in order, and in which no call fails, does all, unless memory is wanting
pub complete : (ws : List Text) (before after : Outside) (told_before told_after : SinkState) (s : Status) → IsRun ws before after told_before told_after s → IsInOrder ws before after → IsDoneOrMemory s
complete ws before after told_before told_after s h o =
    status_fine h.r told_before told_after s (ended_fine ws before after h.r o h.ends) h.tells
