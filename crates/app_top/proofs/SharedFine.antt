-- A job of several programs that did all, or ended for want of memory.
use Rattle.std.proofs.Common.{◌≡◌, ◌≢◌, ◌∙◌, sym, ap, refl, subst, ℕ, zero, suc, ◌<◌, List, [], ◌∷◌, length, map, take, Result, Ok, Err, Option, Some, None, inl, inr, ◌⊎◌, Bool, true, false, arith}
use Rattle.std.specs.Prelude.{slice_get, ◌||◌, ◌-◌}
use Rattle.std.specs.List.{list_all}
use Rattle.std.specs.Str.{bytes_eq}
use Rattle.std.proofs.lemmas.Slice.Eq.{bytes_eq-Decides}
use Rattle.io_dev.specs.Faults.{Rose}
use Rattle.io_dev.specs.Folder.{Folder, IsLonger, Reads}
use Rattle.io_dev.specs.Files.{FilesState}
use Rattle.mc_cmd.specs.Form.{Text}
use Rattle.mc_cmd.specs.Packing.{Written}
use Rattle.mc_cmd.specs.Chain.{Texts}
use Rattle.mc_cmd.specs.Tidy.{is_tidy}
use Rattle.mc_cmd.proofs.FormLemmas.{and_first, and_second}
use Rattle.mc_tidy.specs.First.{IsUntidy}
use Rattle.mc_together.specs.Programs.{all_tidy}
use Rattle.mc_together.specs.Together.{loaded}
use Rattle.app_words.specs.Script.{lines, bad}
use Rattle.app_words.specs.SharedReport.{shared_report}
use Rattle.app_words.specs.SharedScript.{SharedLine, shared_script_read}
use Rattle.app_play.specs.Play.{IsPlayed, cause_view}
use Rattle.app_play.specs.declared.fault.PlayFault.{PlayFault}
use Rattle.app_play.specs.declared.fault.PlayFault.TheVariants as plays
use Rattle.pk_files.specs.Folder.{IsPackRead}
use Rattle.pk_files.specs.Held.{Holds, IsRefused, is_told}
use Rattle.pk_files.specs.Told.{Told, pack_told, told_of}
use Rattle.pk_files.specs.declared.fault.GetFault.{GetFault}
use Rattle.pk_files.specs.declared.fault.GetFault.TheVariants as gets
use Rattle.pk_files.proofs.HeldLemmas.{holds_one, not_refused}
use Rattle.pk_multi.specs.Making.{IsRefused as IsUnfit, IsSame, IsTaken, IsUntidyEntry, IsUntidyHere, has_space}
use Rattle.pk_multi.specs.declared.fault.MultiFault.{MultiFault}
use Rattle.pk_multi.specs.declared.fault.MultiFault.TheVariants as faults
use Rattle.app_words.specs.declared.command_line.Job.TheVariants as jobs
use Rattle.app_top.specs.Complete.{ArePlayable, HasSharedScriptAt, IsFaultless, IsJobInOrder}
use Rattle.app_top.specs.Jobs.{End, end_of_play, file_cap}
use Rattle.app_top.specs.Outside.{Outside}
use Rattle.app_top.specs.Sharing.{AreHeld, AreRefused, HasBytes, IsFirstUnread, IsFolderRefused, IsScriptRefused, IsSharedAnswered, IsSharedDone, IsSharedPlayed, IsToldAs, LiveTogether, of_get_at}
use Rattle.app_top.specs.declared.refusal.Refusal.{Refusal}
use Rattle.app_top.specs.declared.refusal.Refusal.TheVariants as refusals
use Rattle.app_top.proofs.FineLemmas.{IsFine, true_false}
use Rattle.app_top.proofs.PlayedLemmas.{not_longer, not_refused_at, same_bytes}

-- ---- the script

not_bad : (n : ℕ) (low : Bool) (ls : List SharedLine) → bad n low ≡ lines ls → ⊥
not_bad n low ls e = cc

-- a script that is there isn't refused
module _ (folder : Folder) (script : Text) (n : ℕ) (ls : List SharedLine) (s : HasSharedScriptAt folder script n ls) where
  read_so : (content : Option Folder) → content ≡ Some folder → (h : HasBytes content script) → shared_script_read n h.bytes ≡ lines ls
  read_so content e h =
      ap (shared_script_read n) (same_bytes folder script h.bytes s.bytes file_cap (subst (λ (o : Option Folder). Reads o script file_cap h.bytes) e h.reads) s.reads) ∙ s.is_script

  script_fine : (before after : Outside) (refusal : Refusal) → before.files.content ≡ Some folder → IsFaultless before after → IsScriptRefused script n before after refusal → IsFine (Err refusal)
  script_fine before after refusals.Memory e f h = inr refl
  script_fine before after (refusals.CannotRead p) e f h = absurd (f.reads h.1.counted)
  script_fine before after (refusals.TooLong p c) e f h = absurd (not_longer folder script s.bytes file_cap s.reads (subst (λ (o : Option Folder). IsLonger o script file_cap) e h.2))
  script_fine before after (refusals.Script i low) e f h = absurd (not_bad i false ls (sym h.2 ∙ read_so before.files.content e h.0))
  script_fine before after (refusals.LowBudget i least) e f h = absurd (not_bad i true ls (sym h.2 ∙ read_so before.files.content e h.0))
  script_fine before after refusal e f h = absurd h

-- ---- the folders

-- a fault of a folder that holds a pack, where no read and no listing failed
memory_of : (before after : FilesState) (dir : Text) (fault : GetFault) → ¬ Rose before.read_faults after.read_faults → is_told fault ≡ false → IsPackRead before after dir (Err fault) → fault ≡ gets.Memory
memory_of before after dir gets.Memory f t h = refl
memory_of before after dir (gets.ListFailed path) f t h = absurd (f h.1.counted)
memory_of before after dir (gets.Failed path) f t h = absurd (f h.1.counted)
memory_of before after dir fault f t h = absurd (true_false t)

untold : (content : Option Folder) (folder : Folder) (dir : Text) (t : Told) (fault : GetFault) → content ≡ Some folder → Holds (Some folder) dir t → (fault ≡ gets.Memory) ⊎ IsRefused content dir fault → is_told fault ≡ false
untold content folder dir t fault e h (inl m) = ap is_told m
untold content folder dir t fault e h (inr r) = not_refused folder dir t fault h (subst (λ (o : Option Folder). IsRefused o dir fault) e r)

first_memory : (before after : FilesState) (folder : Folder) (dirs : List Text) (ts : List Told) (dir : Text) (fault : GetFault) → before.content ≡ Some folder → ¬ Rose before.read_faults after.read_faults
    → AreHeld (Some folder) dirs ts → IsFirstUnread before after dirs dir fault → fault ≡ gets.Memory
first_memory before after folder [] ts dir fault e f a h = absurd h
first_memory before after folder (d ∷ ds) [] dir fault e f a h = absurd a
first_memory before after folder (d ∷ ds) (t ∷ ts) dir fault e f a (inl u) = memory_of before after d fault f (untold before.content folder d t fault e a.0 u.1.0) u.1
first_memory before after folder (d ∷ ds) (t ∷ ts) dir fault e f a (inr u) = first_memory before after folder ds ts dir fault e f a.1 u.1

folder_fine : (before after : Outside) (folder : Folder) (dirs : List Text) (ts : List Told) (r : End) → before.files.content ≡ Some folder → IsFaultless before after → AreHeld (Some folder) dirs ts → IsFolderRefused dirs before after r → IsFine r
folder_fine before after folder dirs ts r e f a h =
    inr (h.4 ∙ ap (λ (g : GetFault). Err (of_get_at h.0 g)) (first_memory before.files after.files folder dirs ts h.0 h.1 e f.reads a h.2))

-- folders hold one list of packs
held_one : (folder : Folder) (dirs : List Text) (ts us : List Told) → AreHeld (Some folder) dirs ts → AreHeld (Some folder) dirs us → ts ≡ us
held_one folder [] [] [] a b = refl
held_one folder [] [] (u ∷ us) a b = absurd b
held_one folder [] (t ∷ ts) us a b = absurd a
held_one folder (d ∷ ds) [] us a b = absurd a
held_one folder (d ∷ ds) (t ∷ ts) [] a b = absurd b
held_one folder (d ∷ ds) (t ∷ ts) (u ∷ us) a b =
    ap (λ x. x ∷ ts) (holds_one folder d t u a.0 b.0) ∙ ap (λ xs. u ∷ xs) (held_one folder ds ts us a.1 b.1)

-- ---- packs that may live together aren't refused

-- a namespace is that of one of the first of some packs
abbrev HasSpaceAt : Text → List Written → ℕ → Type 0
HasSpaceAt ns ws i = (j : ℕ) × (v : Written) × (slice_get ws j ≡ Some v) × (j < i) × (ns ≡ v.index.ns)

space_more : (ns : Text) (w : Written) (ws : List Written) (i : ℕ) (b : Bool) → bytes_eq ns w.index.ns ≡ b → (has_space ns (take i ws) ≡ true → HasSpaceAt ns ws i) → (b || has_space ns (take i ws)) ≡ true → HasSpaceAt ns (w ∷ ws) (suc i)
space_more ns w ws i true e later h = (0, w, refl, omega arith, (bytes_eq-Decides ns w.index.ns).0 e)
space_more ns w ws i false e later h =
    let f = later h in
    let lt = f.3 in
    (suc f.0, f.1, f.2, omega arith, f.4)

space_at : (ns : Text) (ws : List Written) (i : ℕ) → has_space ns (take i ws) ≡ true → HasSpaceAt ns ws i
space_at ns [] zero h = absurd cc
space_at ns [] (suc i) h = absurd cc
space_at ns (w ∷ ws) zero h = absurd cc
space_at ns (w ∷ ws) (suc i) h = space_more ns w ws i (bytes_eq ns w.index.ns) refl (λ k. space_at ns ws i k) h

-- the pack at a place, as it is told
told_there : (ws : List Written) (i : ℕ) (w : Written) → slice_get ws i ≡ Some w → slice_get (map told_of ws) i ≡ Some (told_of w)
told_there [] i w e = absurd cc
told_there (v ∷ ws) zero w e = let same : v ≡ w = cc in ap (λ x. Some (told_of x)) same
told_there (v ∷ ws) (suc i) w e = told_there ws i w e

not_same : (ws : List Written) (i : ℕ) → LiveTogether (map told_of ws) → IsSame ws i → ⊥
not_same ws i ok h = go (slice_get ws i) refl h.1
  where
    go : (o : Option Written) → slice_get ws i ≡ o → IsTaken (take i ws) o → ⊥
    go None e t = t
    go (Some w) e t =
        let f = space_at w.index.ns ws i t in
        let lt = f.3 in
        let apart : i ≢ f.0 = λ same. omega arith in
        ok.differ i f.0 (told_of w) (told_of f.1) (told_there ws i w e) (told_there ws f.0 f.1 f.2) apart f.4

-- a line of tidy ones is tidy, and so is each of tidy functions
all_here : {A : Type 0} (test : A → Bool) (xs : List A) (i : ℕ) (x : A) → list_all test xs ≡ true → slice_get xs i ≡ Some x → test x ≡ true
all_here test [] i x h e = absurd cc
all_here test (y ∷ ys) zero x h e = let same : y ≡ x = cc in ap test (sym same) ∙ and_first _ _ h
all_here test (y ∷ ys) (suc i) x h e = all_here test ys i x (and_second (test y) _ h) e

not_untidy_line : (ns : Text) (ts : List Text) (i : ℕ) → list_all (is_tidy ns) ts ≡ true → IsUntidy ns (slice_get ts i) → ⊥
not_untidy_line ns ts i h u = go (slice_get ts i) refl u
  where
    go : (o : Option Text) → slice_get ts i ≡ o → IsUntidy ns o → ⊥
    go None e v = v
    go (Some t) e v = true_false (sym (all_here (is_tidy ns) ts i t h e) ∙ v)

not_untidy_entry : (ns : Text) (es : List (Text × Texts)) (i : ℕ) (name : Text) (line : ℕ) → all_tidy ns es ≡ true → IsUntidyEntry ns (slice_get es i) (Some (record { name = name; line = line })) → ⊥
not_untidy_entry ns es i name line h v = go (slice_get es i) refl v
  where
    go : (o : Option (Text × Texts)) → slice_get es i ≡ o → IsUntidyEntry ns o (Some (record { name = name; line = line })) → ⊥
    go None e v = v
    go (Some f) e v = not_untidy_line ns f.1 (line - 1) (all_here (λ (e : Text × Texts). list_all (is_tidy ns) e.1) es i f h e) v.2.1

not_untidy : (ws : List Written) (i : ℕ) (name : Text) (line : ℕ) → LiveTogether (map told_of ws) → IsUntidyHere (slice_get ws i) (record { name = name; line = line }) → ⊥
not_untidy ws i name line ok h = go (slice_get ws i) refl h
  where
    go : (o : Option Written) → slice_get ws i ≡ o → IsUntidyHere o (record { name = name; line = line }) → ⊥
    go None e v = v
    go (Some w) e v = not_untidy_entry w.index.ns w.functions v.place name line (ok.tidy i (told_of w) (told_there ws i w e)) v.here

fault_memory : (ws : List Written) (dirs : List Text) (fault : MultiFault) (refusal : Refusal) → LiveTogether (map told_of ws) → IsUnfit ws fault → IsToldAs dirs fault refusal → refusal ≡ refusals.Memory
fault_memory ws dirs (faults.SameSpace i) refusal ok h t = absurd (not_same ws i ok h)
fault_memory ws dirs (faults.Untidy i name line) refusal ok h t = absurd (not_untidy ws i name line ok h.1.1)
fault_memory ws dirs faults.Memory refusal ok h t = t

packs_fine : (before after : Outside) (folder : Folder) (dirs : List Text) (ts : List Told) (r : End) → before.files.content ≡ Some folder → AreHeld (Some folder) dirs ts → LiveTogether ts → AreRefused dirs before after r → IsFine r
packs_fine before after folder dirs ts r e a ok h =
    let same = held_one folder dirs ts (map told_of h.packs) a (subst (λ (o : Option Folder). AreHeld o dirs (map told_of h.packs)) e h.held) in
    inr (h.is_end ∙ ap (λ (x : Refusal). Err x) (fault_memory h.packs dirs h.fault h.refusal (subst LiveTogether same ok) h.refused h.told))

-- ---- the job

played_fine : (before after : Outside) (folder : Folder) (dirs : List Text) (ts : List Told) (ls : List SharedLine) (r : End)
    → before.files.content ≡ Some folder → IsFaultless before after → AreHeld (Some folder) dirs ts → ArePlayable ts ls → IsSharedPlayed dirs ls before after r → IsFine r
played_fine before after folder dirs ts ls r e f a play h = go h.end h.played h.is_end
  where
    over : ArePlayable h.packs ls
    over = subst (λ (us : List Told). ArePlayable us ls) (held_one folder dirs ts h.packs a (subst (λ (o : Option Folder). AreHeld o dirs h.packs) e h.held)) play

    go : (end : Result (Unit {0}) PlayFault) → IsPlayed (shared_report (map pack_told h.packs) ls (loaded (map pack_told h.packs))) end before.out after.out → r ≡ end_of_play end → IsFine r
    go (Ok u) p q = inl q
    go (Err plays.Output) p q = absurd (f.output p.counted)
    go (Err (plays.Refused line cause)) p q = absurd (not_refused_at line (cause_view cause) (sym over ∙ p.0))
    go (Err plays.Memory) p q = inr q

lines_one : (ks ls : List SharedLine) → lines ks ≡ lines ls → ks ≡ ls
lines_one ks ls e = cc

done_fine : (script : Text) (dirs : List Text) (ks : List SharedLine) (ts : List Told) (before after : Outside) (folder : Folder) (r : End) → before.files.content ≡ Some folder → IsFaultless before after
    → HasSharedScriptAt folder script (length dirs) ks → AreHeld (Some folder) dirs ts → LiveTogether ts → ArePlayable ts ks → IsSharedDone script dirs before after r → IsFine r
done_fine script dirs ks ts before after folder r e f s a ok play h = go h.ends
  where
    alike : ks ≡ h.said
    alike = lines_one ks h.said (sym (read_so folder script (length dirs) ks s before.files.content e h.read) ∙ h.is_script)

    go : IsFolderRefused dirs before after r ⊎ (AreRefused dirs before after r ⊎ IsSharedPlayed dirs h.said before after r) → IsFine r
    go (inl u) = folder_fine before after folder dirs ts r e f a u
    go (inr (inl u)) = packs_fine before after folder dirs ts r e a ok u
    go (inr (inr p)) = played_fine before after folder dirs ts h.said r e f a (subst (λ (us : List SharedLine). ArePlayable ts us) alike play) p

pub shared_fine : (script : Text) (dirs : List Text) (before after : Outside) (folder : Folder) (r : End) → before.files.content ≡ Some folder → IsJobInOrder (jobs.Multi script dirs) folder after.files.content
    → IsFaultless before after → IsSharedAnswered script dirs before after r → IsFine r
shared_fine script dirs before after folder r e o f (inr h) = done_fine script dirs o.0 o.2.0 before after folder r e f o.1 o.2.1 o.2.2 o.2.3 h
shared_fine script dirs before after folder (Err refusal) e o f (inl h) = script_fine folder script (length dirs) o.0 o.1 before after refusal e f h
shared_fine script dirs before after folder (Ok u) e o f (inl h) = absurd h
