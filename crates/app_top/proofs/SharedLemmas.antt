-- A job of several programs, from its parts.
use Rattle.std.proofs.Common.{◌≡◌, ◌∙◌, sym, ap, refl, subst, ℕ, zero, suc, ◌+◌, ◌<◌, ◌≤◌, List, [], ◌∷◌, ◌++◌, length, map, drop, get_or, Result, Ok, Err, Option, Some, None, inl, inr, true, append-nil, append_assoc, arith}
use Rattle.std.specs.Prelude.{nat_le, slice_get}
use Rattle.std.specs.List.{list_all}
use Rattle.std.proofs.Math.ListN.{drop_of_length-le}
use Rattle.std.proofs.lemmas.Bool.{leb-true}
use Rattle.std.proofs.lemmas.List.{length-map}
use Rattle.io_dev.specs.Files.{FilesState}
use Rattle.io_dev.specs.Folder.{Folder}
use Rattle.io_dev.specs.Sink.{SinkState}
use Rattle.mc_cmd.specs.Form.{Text}
use Rattle.mc_cmd.specs.Pack.{Pack}
use Rattle.mc_cmd.specs.Packing.{Written, pack_view}
use Rattle.mc_cmd.proofs.FormLemmas.{and_first, and_second}
use Rattle.mc_together.specs.Programs.{MayLiveTogether, all_tidy}
use Rattle.mc_together.specs.Together.{ArePrograms, loaded}
use Rattle.mc_together.proofs.ProgramLemmas.{may_be_programs}
use Rattle.app_words.specs.Script.{lines}
use Rattle.app_words.specs.SharedReport.{shared_report}
use Rattle.app_words.specs.SharedScript.{SharedLine, shared_fits, shared_script_read}
use Rattle.app_words.specs.Words.{is_program_count}
use Rattle.app_words.proofs.SharedLemmas.{shared_script_fits}
use Rattle.app_play.specs.Play.{IsPlayed}
use Rattle.app_play.specs.declared.fault.PlayFault.{PlayFault}
use Rattle.pk_files.specs.Held.{Holds}
use Rattle.pk_files.specs.Told.{Told, pack_told, told_of}
use Rattle.pk_files.specs.declared.fault.GetFault.{GetFault}
use Rattle.pk_files.specs.declared.fault.GetFault.TheVariants as gets
use Rattle.pk_files.proofs.ReadLemmas.{drop_at}
use Rattle.pk_multi.specs.Making.{IsRefused, IsUntidyHere}
use Rattle.pk_multi.specs.declared.fault.MultiFault.TheVariants as faults
use Rattle.app_top.specs.Jobs.{End, end_of_play, file_cap}
use Rattle.app_top.specs.Outside.{outside}
use Rattle.app_top.specs.Sharing.{AreHeld, HasBytes, IsFirstUnread, IsSharedAnswered, IsSharedFirst, LiveTogether}
use Rattle.app_top.specs.declared.refusal.Refusal.{Refusal}
use Rattle.app_top.specs.declared.refusal.Refusal.TheVariants as refusals
use Rattle.app_top.specs.steps.Run.{IsReadWithin}
use Rattle.app_top.specs.steps.ShareRun.{ArePacksRead, AreProgramsMade, AreSharedLinesRead, IsPackReadAt, IsUntidyTold}

-- ---- folders that are read

-- what reading of the folders left answers is what reading of all answers
pub record PacksOn (before : FilesState) (found : List Told) (left all : List Text) : Type 0 where
  pub ok : (rest : List Told) → AreHeld before.content left rest → AreHeld before.content all (found ++ rest)
  pub err : (after : FilesState) (dir : Text) (fault : GetFault) → IsFirstUnread before after left dir fault → IsFirstUnread before after all dir fault

pub packs_begin : (before : FilesState) (all : List Text) → PacksOn before [] all all
packs_begin before all = record { ok = λ rest h. h; err = λ after dir fault h. h }

packs_one : (before : FilesState) (found : List Told) (d : Text) (t : Told) (left all : List Text) → PacksOn before found (d ∷ left) all → Holds before.content d t → PacksOn before (found ++ t ∷ []) left all
packs_one before found d t left all c read = record {
  ok = λ rest h. subst (λ (ts : List Told). AreHeld before.content all ts) (sym (append_assoc found (t ∷ []) rest)) (c.ok (t ∷ rest) (read, h));
  err = λ after dir fault h. c.err after dir fault (inr ((t, read), h));
}

told_push : (ws : List Written) (w : Written) → map told_of ws ++ told_of w ∷ [] ≡ map told_of (ws ++ w ∷ [])
told_push [] w = refl
told_push (v ∷ ws) w = ap (λ ts. told_of v ∷ ts) (told_push ws w)

-- the next of the folders was read
pub packs_more : (before now after : FilesState) (all : List Text) (i : ℕ) (dir : Text) (w : Written) (found more : List Written)
    → i < length all → dir ≡ get_or all i dir → now ≡ before → PacksOn before (map told_of found) (drop i all) all → IsPackReadAt now after dir (Ok w) → more ≡ found ++ w ∷ []
    → PacksOn before (map told_of more) (drop (i + 1) all) all
packs_more before now after all i dir w found more lt is same c read push =
    subst (λ (ts : List Told). PacksOn before ts (drop (i + 1) all) all) (told_push found w ∙ ap (map told_of) (sym push))
    (packs_one before (map told_of found) dir (told_of w) (drop (i + 1) all) all
    (subst (λ (left : List Text). PacksOn before (map told_of found) left all) (drop_at all i dir lt is) c)
    (subst (λ (f : FilesState). Holds f.content dir (told_of w)) same read.0))

-- the next of the folders was refused
pub pack_unread : (before now after : FilesState) (all : List Text) (i : ℕ) (dir : Text) (found : List Written) (refusal : Refusal)
    → i < length all → dir ≡ get_or all i dir → now ≡ before → PacksOn before (map told_of found) (drop i all) all → IsPackReadAt now after dir (Err refusal)
    → ArePacksRead before after all (Err refusal)
pack_unread before now after all i dir found refusal lt is same c read =
    let d = subst (λ (left : List Text). PacksOn before (map told_of found) left all) (drop_at all i dir lt is) c in
    let h = subst (λ (f : FilesState). IsPackReadAt f after dir (Err refusal)) same read in
    (dir, h.0, d.err after dir h.0 (inl (refl, h.1)), h.2)

-- there was no memory for one more pack
pub packs_full : (before now after : FilesState) (all : List Text) (i : ℕ) (dir : Text) (w : Written) (found : List Written)
    → i < length all → dir ≡ get_or all i dir → now ≡ before → PacksOn before (map told_of found) (drop i all) all → IsPackReadAt now after dir (Ok w)
    → ArePacksRead before after all (Err refusals.Memory)
packs_full before now after all i dir w found lt is same c read =
    let d = subst (λ (left : List Text). PacksOn before (map told_of found) left all) (drop_at all i dir lt is) c in
    (dir, gets.Memory, d.err after dir gets.Memory (inl (refl, (inl refl, read.1 ∙ same))), refl)

-- all of the folders were read
pub packs_read : (before : FilesState) (all : List Text) (i : ℕ) (found : List Written) → length all ≤ i → PacksOn before (map told_of found) (drop i all) all → AreHeld before.content all (map told_of found)
packs_read before all i found le c =
    let d = subst (λ (left : List Text). PacksOn before (map told_of found) left all) (drop_of_length-le all le) c in
    subst (λ (ts : List Told). AreHeld before.content all ts) (append-nil (map told_of found)) (d.ok [] tt)

-- there are as many packs as folders
pub held_many : (content : Option Folder) (dirs : List Text) (ts : List Told) → AreHeld content dirs ts → length ts ≡ length dirs
held_many content [] [] h = refl
held_many content [] (t ∷ ts) h = absurd h
held_many content (d ∷ dirs) [] h = absurd h
held_many content (d ∷ dirs) (t ∷ ts) h = ap suc (held_many content dirs ts h.1)

pub packs_many : (content : Option Folder) (dirs : List Text) (ws : List Written) → AreHeld content dirs (map told_of ws) → length ws ≡ length dirs
packs_many content dirs ws h = sym (length-map ws told_of) ∙ held_many content dirs (map told_of ws) h

-- a number of folders
pub some_folders : (n : ℕ) → is_program_count n ≡ true → 1 ≤ n
some_folders n h = leb-true 1 n (and_first _ _ h)

pub few_folders : (n : ℕ) → is_program_count n ≡ true → n ≤ 16
few_folders n h = leb-true n 16 (and_second (nat_le 1 n) _ h)

-- ---- packs that live together

told_at : (ws : List Written) (i : ℕ) (t : Told) → slice_get (map told_of ws) i ≡ Some t → (w : Written) × (slice_get ws i ≡ Some w) × (told_of w ≡ t)
told_at [] i t e = absurd cc
told_at (w ∷ ws) zero t e = (w, refl, cc)
told_at (w ∷ ws) (suc i) t e = told_at ws i t e

pub live_together : (ws : List Written) → MayLiveTogether ws → LiveTogether (map told_of ws)
live_together ws ok = record {
  tidy = λ i t e. let w = told_at ws i t e in subst (λ (t : Told). all_tidy t.index.ns t.functions ≡ true) w.2 (ok.tidy i w.0 w.1);
  differ = λ i j t u e f n s.
      let a = told_at ws i t e in
      let b = told_at ws j u f in
      ok.differ i j a.0 b.0 a.1 b.1 n (ap (λ (t : Told). t.index.ns) a.2 ∙ s ∙ sym (ap (λ (t : Told). t.index.ns) b.2));
}

pub views_told : (ws : List Written) → map pack_view ws ≡ map pack_told (map told_of ws)
views_told [] = refl
views_told (w ∷ ws) = ap (λ ps. pack_view w ∷ ps) (views_told ws)

pub programs_told : (ws : List Written) → MayLiveTogether ws → ArePrograms (map pack_told (map told_of ws))
programs_told ws ok = subst ArePrograms (views_told ws) (may_be_programs ws ok)

-- the pack of a line that isn't tidy is there
pub untidy_within : (ws : List Written) (i : ℕ) (name : Text) (line : ℕ) → IsRefused ws (faults.Untidy i name line) → i < length ws
untidy_within ws i name line h = go (slice_get ws i) refl h.1.1
  where
    there : (ws : List Written) (i : ℕ) (w : Written) → slice_get ws i ≡ Some w → i < length ws
    there [] i w e = absurd cc
    there (v ∷ ws) zero w e = omega arith
    there (v ∷ ws) (suc i) w e = let lt = there ws i w e in omega arith

    go : (o : Option Written) → slice_get ws i ≡ o → IsUntidyHere o (record { name = name; line = line }) → i < length ws
    go None e u = absurd u
    go (Some w) e u = there ws i w e

-- a line that isn't tidy is told, or there was no memory for that
pub untidy_told : (ws : List Written) (dirs : List Text) (i : ℕ) (name : Text) (line : ℕ) (refusal : Refusal) → IsRefused ws (faults.Untidy i name line) → IsUntidyTold dirs i name line refusal → AreProgramsMade ws dirs (Err refusal)
untidy_told ws dirs i name line refusal h (inl t) = (faults.Untidy i name line, h, t)
untidy_told ws dirs i name line refusal h (inr m) = (faults.Memory, h.0, m)

-- ---- the job

-- the script couldn't be read
pub script_unread : (script : Text) (dirs : List Text) (before after : FilesState) (out : SinkState) (refusal : Refusal) → IsReadWithin before after script file_cap (Err refusal) → IsSharedFirst script dirs (outside before out) (outside after out) (Err refusal)
script_unread script dirs before after out (refusals.CannotRead p) h = (h.0, h.1, refl)
script_unread script dirs before after out (refusals.TooLong p c) h = (h.0, h.1, h.3, ap (λ f. outside f out) h.2)
script_unread script dirs before after out refusals.Memory h = ap (λ f. outside f out) h
script_unread script dirs before after out refusal h = absurd h

-- the bytes that were read
pub bytes_of : (script bytes : Text) (before after : FilesState) → IsReadWithin before after script file_cap (Ok bytes) → HasBytes before.content script
bytes_of script bytes before after h = record { bytes = bytes; reads = h.1 }

-- the script was refused
pub no_shared_lines : (script bytes : Text) (dirs : List Text) (before after : FilesState) (out : SinkState) (refusal : Refusal)
    → IsReadWithin before after script file_cap (Ok bytes) → AreSharedLinesRead (length dirs) bytes (Err refusal) → IsSharedFirst script dirs (outside before out) (outside after out) (Err refusal)
unfolding bytes_of
no_shared_lines script bytes dirs before after out (refusals.Script line low) r h = (bytes_of script bytes before after r, h.0, h.1, ap (λ f. outside f out) r.0)
no_shared_lines script bytes dirs before after out (refusals.LowBudget line least) r h = (bytes_of script bytes before after r, h.0, h.1, ap (λ f. outside f out) r.0)
no_shared_lines script bytes dirs before after out refusals.Memory r h = ap (λ f. outside f out) r.0
no_shared_lines script bytes dirs before after out refusal r h = absurd h

module _ (script bytes : Text) (dirs : List Text) (before between : FilesState) (out : SinkState) (ls : List SharedLine)
    (read : IsReadWithin before between script file_cap (Ok bytes)) (said : shared_script_read (length dirs) bytes ≡ lines ls) where
  -- a folder was refused
  pub folder_refused : (after : FilesState) (refusal : Refusal) → ArePacksRead between after dirs (Err refusal) → IsSharedAnswered script dirs (outside before out) (outside after out) (Err refusal)
  folder_refused after refusal h =
      let g = subst (λ (f : FilesState). ArePacksRead f after dirs (Err refusal)) read.0 h in
      inr (record { read = record { bytes = bytes; reads = read.1 }; said = ls; is_script = said; ends = inl (g.0, g.1, g.2, refl, ap Err g.3) })

  module _ (after : FilesState) (ws : List Written) (held : AreHeld between.content dirs (map told_of ws)) (same : after ≡ between) where
    held_before : AreHeld before.content dirs (map told_of ws)
    held_before = subst (λ (f : FilesState). AreHeld f.content dirs (map told_of ws)) read.0 held

    -- the packs may not live together
    pub packs_refused : (refusal : Refusal) → AreProgramsMade ws dirs (Err refusal) → IsSharedAnswered script dirs (outside before out) (outside after out) (Err refusal)
    packs_refused refusal h =
        inr (record {
          read = record { bytes = bytes; reads = read.1 };
          said = ls;
          is_script = said;
          ends = inr (inl (record { packs = ws; held = held_before; fault = h.0; refused = h.1; refusal = refusal; told = h.2; same = ap (λ f. outside f out) (same ∙ read.0); is_end = refl }));
        })

    -- the script was played
    pub shared_played : (played : SinkState) (end : Result (Unit {0}) PlayFault) (r : End) → MayLiveTogether ws → IsPlayed (shared_report (map pack_view ws) ls (loaded (map pack_view ws))) end out played → r ≡ end_of_play end
        → IsSharedAnswered script dirs (outside before out) (outside after played) r
    shared_played played end r ok h e =
        inr (record {
          read = record { bytes = bytes; reads = read.1 };
          said = ls;
          is_script = said;
          ends = inr (inr (record {
            packs = map told_of ws;
            held = held_before;
            together = live_together ws ok;
            programs = programs_told ws ok;
            same_files = same ∙ read.0;
            end = end;
            played = subst (λ (ps : List Pack). IsPlayed (shared_report ps ls (loaded ps)) end out played) (views_told ws) h;
            is_end = e;
          }));
        })

-- the lines fit as many programs as there are packs
pub lines_fit_packs : (bytes : Text) (n : ℕ) (ls : List SharedLine) (ws : List Written) → shared_script_read n bytes ≡ lines ls → length ws ≡ n → list_all (λ l. shared_fits (length (map pack_view ws)) l.act) ls ≡ true
lines_fit_packs bytes n ls ws said many =
    let count : length (map pack_view ws) ≡ n = length-map ws pack_view ∙ many in
    rw count (shared_script_fits n bytes ls said)
