-- A job that joins modules, from its parts.
use Rattle.std.proofs.Common.{◌≡◌, ◌∙◌, sym, ap, refl, subst, ℕ, suc, ◌+◌, ◌<◌, ◌≤◌, List, [], ◌∷◌, ◌++◌, length, map, drop, get_or, Result, Ok, Err, Option, inl, inr, true, append-nil, append_assoc}
use Rattle.std.specs.Prelude.{All, IfOk, nat_le}
use Rattle.std.proofs.Math.ListN.{drop_of_length-le}
use Rattle.std.proofs.lemmas.Bool.{leb-true}
use Rattle.std.proofs.lemmas.List.Elements.{All-nil, All-cons, All-append}
use Rattle.io_dev.specs.Files.{FilesState, ReadFailed}
use Rattle.io_dev.specs.Folder.{Folder, IsLonger, Reads}
use Rattle.io_dev.specs.Sink.{SinkState}
use Rattle.mc_cmd.specs.Form.{Text}
use Rattle.mc_cmd.specs.Pack.{loaded}
use Rattle.mc_cmd.specs.Packing.{Written, is_written, pack_view}
use Rattle.mc_cmd.proofs.FormLemmas.{and_first, and_second}
use Rattle.wm_ast.specs.declared.module.Module.{Module}
use Rattle.wm_ast.specs.Spelling.{Spells}
use Rattle.wm_decode.specs.Decoding.{IsDecoded}
use Rattle.wm_decode.specs.declared.decoding.DecodeFault.{DecodeFault}
use Rattle.wm_decode.specs.declared.decoding.DecodeFault.TheVariants as decodes
use Rattle.wm_valid.specs.declared.typed.Typed.{Typed}
use Rattle.wm_match.specs.declared.fault.MatchFault.{MatchFault}
use Rattle.wm_match.specs.declared.fault.MatchFault.TheVariants as matches
use Rattle.wm_match.specs.declared.library.Library.{Library}
use Rattle.wm_match.specs.Cause.{IsCause, program}
use Rattle.wm_match.specs.Lists.{HasListsWithin}
use Rattle.wm_match.specs.Program.{Program, module_of, modules_of}
use Rattle.wm_match.proofs.ListLaws.{lists_short, short_more}
use Rattle.wm_join.specs.Joined.{joined}
use Rattle.wm_valid.specs.Valid.{Valid}
use Rattle.pk_files.specs.Folder.{IsSeen}
use Rattle.pk_files.specs.declared.fault.PutFault.{PutFault}
use Rattle.pk_files.proofs.ReadLemmas.{drop_at}
use Rattle.pk_link.specs.Linked.{IsPackFor}
use Rattle.app_linked.proofs.TellLemmas.{lines_tell}
use Rattle.app_words.specs.Report.{report}
use Rattle.app_words.specs.Act.{ScriptLine}
use Rattle.app_words.specs.Script.{script_read, lines}
use Rattle.app_words.specs.Words.{is_library_count}
use Rattle.app_words.specs.declared.named_files.NamedFile.{NamedFile}
use Rattle.app_top.specs.Jobs.{End, IsExecEnd, file_cap}
use Rattle.app_top.specs.Joining.{AreLibraries, AreLinked, AreRead, HasFiles, HasJoined, IsFirstUndecoded, IsJoinAnswered, IsJoinFirst, IsNextOf, LinesTellLinked, file_of, paths_of}
use Rattle.app_top.specs.Outside.{Outside, outside}
use Rattle.app_top.specs.Refusal.{of_put}
use Rattle.app_top.specs.Source.{HasModule}
use Rattle.app_top.specs.declared.inputs.JoinInputs.{JoinInputs}
use Rattle.app_top.specs.declared.inputs.Sources.{Sources}
use Rattle.app_top.specs.declared.refusal.Refusal.{Refusal}
use Rattle.app_top.specs.declared.refusal.Refusal.TheVariants as refusals
use Rattle.app_top.specs.steps.JoinRun.{AreLibrariesDecoded, AreLibrariesRead, AreShort, AreSourcesRead, AreSourcesShort, IsDecodedAt, IsJoined, IsLibraryDecoded, IsReadingRefused, IsSourceJoined, IsSourceTakenJoin}
use Rattle.app_top.specs.steps.RefusalOf.{of_match}
use Rattle.app_top.specs.steps.Run.{AreLinesRead, IsReadWithin, IsSourceTaken, IsTaken}

-- ---- files that are read

-- what reading of the libraries left answers is what reading of all answers
pub record ReadsOn (content : Option Folder) (found : List Text) (left all : List NamedFile) : Type 0 where
  pub ok : (rest : List Text) → AreRead content (map file_of left) rest → AreRead content (map file_of all) (found ++ rest)
  pub err : (path : Text) → IsNextOf content (map file_of left) path → IsNextOf content (map file_of all) path

pub reads_begin : (content : Option Folder) (all : List NamedFile) → ReadsOn content [] all all
reads_begin content all = record { ok = λ rest h. h; err = λ path h. h }

reads_one : (content : Option Folder) (found : List Text) (l : NamedFile) (bytes : Text) (left all : List NamedFile)
    → ReadsOn content found (l ∷ left) all → Reads content l.file file_cap bytes → ReadsOn content (found ++ bytes ∷ []) left all
reads_one content found l bytes left all c read = record {
  ok = λ rest h. subst (λ (bs : List Text). AreRead content (map file_of all) bs) (sym (append_assoc found (bytes ∷ []) rest)) (c.ok (bytes ∷ rest) (read, h));
  err = λ path h. c.err path (inr ((bytes, read), h));
}

-- the next of the libraries was read
pub reads_more : (before now after : FilesState) (all : List NamedFile) (i : ℕ) (l : NamedFile) (bytes : Text) (found : List Text)
    → i < length all → l ≡ get_or all i l → now ≡ before → ReadsOn before.content found (drop i all) all → IsReadWithin now after l.file file_cap (Ok bytes)
    → ReadsOn before.content (found ++ bytes ∷ []) (drop (i + 1) all) all
reads_more before now after all i l bytes found lt is same c read =
    reads_one before.content found l bytes (drop (i + 1) all) all
    (subst (λ (left : List NamedFile). ReadsOn before.content found left all) (drop_at all i l lt is) c)
    (subst (λ (f : FilesState). Reads f.content l.file file_cap bytes) same read.1)

-- a read is refused, of a file whose turn it is
read_refused : (before after : FilesState) (path : Text) (paths : List Text) (refusal : Refusal)
    → IsNextOf before.content paths path → IsReadWithin before after path file_cap (Err refusal) → IsReadingRefused paths before after refusal
read_refused before after path paths (refusals.CannotRead p) next h =
    (subst (λ (q : Text). IsNextOf before.content paths q) (sym h.0) next, subst (λ (q : Text). ReadFailed before after q) (sym h.0) h.1)
read_refused before after path paths (refusals.TooLong p c) next h =
    (subst (λ (q : Text). IsNextOf before.content paths q) (sym h.0) next, h.1, h.2, subst (λ (q : Text). IsLonger before.content q c) (sym h.0) (subst (λ (n : ℕ). IsLonger before.content path n) (sym h.1) h.3))
read_refused before after path paths refusals.Memory next h = h
read_refused before after path paths refusal next h = absurd h

-- the next of the libraries was refused
pub library_unread : (before now after : FilesState) (all : List NamedFile) (i : ℕ) (l : NamedFile) (found : List Text) (refusal : Refusal)
    → i < length all → l ≡ get_or all i l → now ≡ before → ReadsOn before.content found (drop i all) all → IsReadWithin now after l.file file_cap (Err refusal)
    → IsReadingRefused (map file_of all) before after refusal
library_unread before now after all i l found refusal lt is same c read =
    let d = subst (λ (left : List NamedFile). ReadsOn before.content found left all) (drop_at all i l lt is) c in
    read_refused before after l.file (map file_of all) refusal (d.err l.file (inl refl))
    (subst (λ (f : FilesState). IsReadWithin f after l.file file_cap (Err refusal)) same read)

-- all of the libraries were read
pub all_read : (content : Option Folder) (all : List NamedFile) (i : ℕ) (found : List Text)
    → length all ≤ i → ReadsOn content found (drop i all) all → AreRead content (map file_of all) found
all_read content all i found le c =
    let d = subst (λ (left : List NamedFile). ReadsOn content found left all) (drop_of_length-le all le) c in
    subst (λ (bs : List Text). AreRead content (map file_of all) bs) (append-nil found) (d.ok [] tt)

-- the path whose turn it is, also where further ones come, and where others were read before
next_more : (content : Option Folder) (paths more : List Text) (p : Text) → IsNextOf content paths p → IsNextOf content (paths ++ more) p
next_more content [] more p h = absurd h
next_more content (q ∷ qs) more p (inl e) = inl e
next_more content (q ∷ qs) more p (inr h) = inr (h.0, next_more content qs more p h.1)

next_behind : (content : Option Folder) (paths more read : List Text) (p : Text) → AreRead content paths read → IsNextOf content more p → IsNextOf content (paths ++ more) p
next_behind content [] more [] p r h = h
next_behind content [] more (b ∷ bs) p r h = absurd r
next_behind content (q ∷ qs) more [] p r h = absurd r
next_behind content (q ∷ qs) more (b ∷ bs) p r h = inr ((b, r.0), next_behind content qs more bs p r.1 h)

reading_refused : (paths qs : List Text) (before after : FilesState) (refusal : Refusal)
    → ((p : Text) → IsNextOf before.content paths p → IsNextOf before.content qs p) → IsReadingRefused paths before after refusal → IsReadingRefused qs before after refusal
reading_refused paths qs before after (refusals.CannotRead p) next h = (next p h.0, h.1)
reading_refused paths qs before after (refusals.TooLong p c) next h = (next p h.0, h.1, h.2, h.3)
reading_refused paths qs before after refusals.Memory next h = h
reading_refused paths qs before after refusal next h = absurd h

-- the script was refused, or one of the libraries behind it, or the main module behind these
pub script_unread : (before after : FilesState) (script main : Text) (libraries : List NamedFile) (refusal : Refusal)
    → IsReadWithin before after script file_cap (Err refusal) → IsReadingRefused (paths_of script libraries main) before after refusal
script_unread before after script main libraries refusal h =
    read_refused before after script (paths_of script libraries main) refusal (inl refl) h

pub libraries_unread : (before now after : FilesState) (script main script_bytes : Text) (libraries : List NamedFile) (refusal : Refusal)
    → IsReadWithin before now script file_cap (Ok script_bytes) → AreLibrariesRead libraries now after (Err refusal) → IsReadingRefused (paths_of script libraries main) before after refusal
libraries_unread before now after script main script_bytes libraries refusal s h =
    reading_refused (map file_of libraries) (paths_of script libraries main) before after refusal
    (λ p n. inr ((script_bytes, s.1), next_more before.content (map file_of libraries) (main ∷ []) p n))
    (subst (λ (f : FilesState). IsReadingRefused (map file_of libraries) f after refusal) s.0 h)

pub main_unread : (before between now after : FilesState) (script main script_bytes : Text) (libraries : List NamedFile) (found : List Text) (refusal : Refusal)
    → IsReadWithin before between script file_cap (Ok script_bytes) → AreLibrariesRead libraries between now (Ok found) → IsReadWithin now after main file_cap (Err refusal)
    → IsReadingRefused (paths_of script libraries main) before after refusal
main_unread before between now after script main script_bytes libraries found refusal s l h =
    let read = subst (λ (f : FilesState). AreRead f.content (map file_of libraries) found) s.0 l.1 in
    read_refused before after main (paths_of script libraries main) refusal
    (inr ((script_bytes, s.1), next_behind before.content (map file_of libraries) (main ∷ []) found main read (inl refl)))
    (subst (λ (f : FilesState). IsReadWithin f after main file_cap (Err refusal)) (l.0 ∙ s.0) h)

-- all was read
pub sources_read : (before between now after : FilesState) (script main : Text) (libraries : List NamedFile) (i : JoinInputs)
    → IsReadWithin before between script file_cap (Ok i.script) → AreLibrariesRead libraries between now (Ok i.sources.libraries) → IsReadWithin now after main file_cap (Ok i.sources.main)
    → AreSourcesRead script libraries main before after (Ok i)
sources_read before between now after script main libraries i s l m =
    (m.0 ∙ l.0 ∙ s.0, s.1, subst (λ (f : FilesState). AreRead f.content (map file_of libraries) i.sources.libraries) s.0 l.1, subst (λ (f : FilesState). Reads f.content main file_cap i.sources.main) (l.0 ∙ s.0) m.1)

-- what was read isn't too long
read_short : (content : Option Folder) (named : List NamedFile) (bs : List Text) → AreRead content (map file_of named) bs → AreShort named bs
read_short content [] [] h = tt
read_short content [] (b ∷ bs) h = absurd h
read_short content (n ∷ named) [] h = absurd h
read_short content (n ∷ named) (b ∷ bs) h = (h.0.within, read_short content named bs h.1)

pub sources_short : (script main : Text) (libraries : List NamedFile) (before after : FilesState) (i : JoinInputs) → AreSourcesRead script libraries main before after (Ok i) → AreSourcesShort libraries i.sources
sources_short script main libraries before after i h = (read_short before.content libraries i.sources.libraries h.2, h.3.within)

-- ---- modules that are decoded

-- bytes that spell no module
pub not_decoded_at : (path bytes : Text) (fault : DecodeFault) → IsDecoded bytes (Err fault) → (fault ≡ decodes.Memory → ⊥) → IsDecodedAt path bytes (Err (refusals.NotDecodedAt path fault))
not_decoded_at path bytes decodes.Memory h n = absurd (n refl)
not_decoded_at path bytes (decodes.Frame f) h n = (refl, h)
not_decoded_at path bytes (decodes.BadSection k) h n = (refl, h)
not_decoded_at path bytes (decodes.CountMismatch f b) h n = (refl, h)

pub library_undecoded : (n : NamedFile) (bytes : Text) (refusal : Refusal) → IsDecodedAt n.file bytes (Err refusal) → IsLibraryDecoded n bytes (Err refusal)
library_undecoded n bytes (refusals.NotDecodedAt p fault) h = h
library_undecoded n bytes refusals.Memory h = h
library_undecoded n bytes refusal h = absurd h

-- what decoding of the libraries left answers is what decoding of all answers
pub record DecodesOn (found : List Library) (left all : List NamedFile) (bytes_left all_bytes : List Text) : Type 0 where
  pub ok : (rest : List Library) → AreLibraries left bytes_left rest → AreLibraries all all_bytes (found ++ rest)
  pub err : (path : Text) (fault : DecodeFault) → IsFirstUndecoded (map file_of left) bytes_left path fault → IsFirstUndecoded (map file_of all) all_bytes path fault

pub decodes_begin : (all : List NamedFile) (all_bytes : List Text) → DecodesOn [] all all all_bytes all_bytes
decodes_begin all all_bytes = record { ok = λ rest h. h; err = λ path fault h. h }

decodes_one : (found : List Library) (n : NamedFile) (bytes : Text) (l : Library) (left all : List NamedFile) (bytes_left all_bytes : List Text)
    → DecodesOn found (n ∷ left) all (bytes ∷ bytes_left) all_bytes → IsLibraryDecoded n bytes (Ok l) → DecodesOn (found ++ l ∷ []) left all bytes_left all_bytes
decodes_one found n bytes l left all bytes_left all_bytes c h = record {
  ok = λ rest r. subst (λ (ls : List Library). AreLibraries all all_bytes ls) (sym (append_assoc found (l ∷ []) rest)) (c.ok (l ∷ rest) (h.0, h.1, r));
  err = λ path fault u. c.err path fault (inr ((l.«module», h.1), u));
}

decodes_at : (found : List Library) (all : List NamedFile) (all_bytes : List Text) (i : ℕ) (n : NamedFile) (bytes : Text)
    → i < length all → n ≡ get_or all i n → i < length all_bytes → bytes ≡ get_or all_bytes i bytes → DecodesOn found (drop i all) all (drop i all_bytes) all_bytes
    → DecodesOn found (n ∷ drop (i + 1) all) all (bytes ∷ drop (i + 1) all_bytes) all_bytes
decodes_at found all all_bytes i n bytes lt is within at c =
    subst (λ (left : List NamedFile). DecodesOn found left all (bytes ∷ drop (i + 1) all_bytes) all_bytes) (drop_at all i n lt is)
    (subst (λ (left : List Text). DecodesOn found (drop i all) all left all_bytes) (drop_at all_bytes i bytes within at) c)

-- the next of the libraries was decoded, or not
pub decodes_more : (found : List Library) (all : List NamedFile) (all_bytes : List Text) (i : ℕ) (n : NamedFile) (bytes : Text) (l : Library)
    → i < length all → n ≡ get_or all i n → i < length all_bytes → bytes ≡ get_or all_bytes i bytes → DecodesOn found (drop i all) all (drop i all_bytes) all_bytes
    → IsLibraryDecoded n bytes (Ok l) → DecodesOn (found ++ l ∷ []) (drop (i + 1) all) all (drop (i + 1) all_bytes) all_bytes
decodes_more found all all_bytes i n bytes l lt is within at c h =
    decodes_one found n bytes l (drop (i + 1) all) all (drop (i + 1) all_bytes) all_bytes (decodes_at found all all_bytes i n bytes lt is within at c) h

pub libraries_undecoded : (found : List Library) (all : List NamedFile) (all_bytes : List Text) (i : ℕ) (n : NamedFile) (bytes : Text) (refusal : Refusal)
    → i < length all → n ≡ get_or all i n → i < length all_bytes → bytes ≡ get_or all_bytes i bytes → DecodesOn found (drop i all) all (drop i all_bytes) all_bytes
    → IsLibraryDecoded n bytes (Err refusal) → AreLibrariesDecoded all all_bytes (Err refusal)
libraries_undecoded found all all_bytes i n bytes (refusals.NotDecodedAt p fault) lt is within at c h =
    (decodes_at found all all_bytes i n bytes lt is within at c).err p fault (inl (sym h.0, h.1))
libraries_undecoded found all all_bytes i n bytes refusals.Memory lt is within at c h = h
libraries_undecoded found all all_bytes i n bytes refusal lt is within at c h = absurd h

-- all of the libraries were decoded
pub all_decoded : (found : List Library) (all : List NamedFile) (all_bytes : List Text) (i : ℕ)
    → length all ≤ i → length all_bytes ≤ i → DecodesOn found (drop i all) all (drop i all_bytes) all_bytes → AreLibraries all all_bytes found
all_decoded found all all_bytes i le within c =
    let d = subst (λ (left : List NamedFile). DecodesOn found left all [] all_bytes) (drop_of_length-le all le)
    (subst (λ (left : List Text). DecodesOn found (drop i all) all left all_bytes) (drop_of_length-le all_bytes within) c) in
    subst (λ (ls : List Library). AreLibraries all all_bytes ls) (append-nil found) (d.ok [] tt)

-- ---- modules that are joined

pub short_many : (named : List NamedFile) (bs : List Text) → AreShort named bs → length bs ≡ length named
short_many [] [] h = refl
short_many [] (b ∷ bs) h = absurd h
short_many (n ∷ named) [] h = absurd h
short_many (n ∷ named) (b ∷ bs) h = ap suc (short_many named bs h.1)

libraries_many : (named : List NamedFile) (bs : List Text) (libraries : List Library) → AreLibraries named bs libraries → length libraries ≡ length named
libraries_many [] [] [] h = refl
libraries_many [] [] (l ∷ ls) h = absurd h
libraries_many [] (b ∷ bs) ls h = absurd h
libraries_many (n ∷ named) [] ls h = absurd h
libraries_many (n ∷ named) (b ∷ bs) [] h = absurd h
libraries_many (n ∷ named) (b ∷ bs) (l ∷ ls) h = ap suc (libraries_many named bs ls h.2)

pub libraries_count : (named : List NamedFile) (bs : List Text) (libraries : List Library) → is_library_count (length named) ≡ true → AreLibraries named bs libraries
    → (1 ≤ length libraries) × (length libraries ≤ 16)
libraries_count named bs libraries count h =
    let same = libraries_many named bs libraries h in
    let few = subst (λ k. is_library_count k ≡ true) (sym same) count in
    (leb-true _ _ (and_first (nat_le 1 (length libraries)) _ few), leb-true _ _ (and_second (nat_le 1 (length libraries)) _ few))

module_short : (bytes : Text) (m : Module) → Spells bytes m → length bytes ≤ file_cap → HasListsWithin 1048576 m
module_short bytes m s le = short_more (length bytes) 1048576 m (lists_short bytes m s) le

libraries_short : (named : List NamedFile) (bs : List Text) (libraries : List Library) → AreShort named bs → AreLibraries named bs libraries → All (HasListsWithin 1048576) (map module_of libraries)
libraries_short [] [] [] s h = All-nil (HasListsWithin 1048576)
libraries_short [] [] (l ∷ ls) s h = absurd h
libraries_short [] (b ∷ bs) ls s h = absurd h
libraries_short (n ∷ named) [] ls s h = absurd h
libraries_short (n ∷ named) (b ∷ bs) [] s h = absurd h
libraries_short (n ∷ named) (b ∷ bs) (l ∷ ls) s h =
    All-cons (HasListsWithin 1048576) l.«module» (map module_of ls) (module_short b l.«module» h.1 s.0) (libraries_short named bs ls s.1 h.2)

pub modules_short : (named : List NamedFile) (s : Sources) (libraries : List Library) (main : Module) → AreSourcesShort named s → AreLibraries named s.libraries libraries → Spells s.main main
    → All (HasListsWithin 1048576) (modules_of libraries main)
modules_short named s libraries main short l m =
    All-append (HasListsWithin 1048576) (map module_of libraries) (main ∷ []) (libraries_short named s.libraries libraries short.0 l)
    (All-cons (HasListsWithin 1048576) main [] (module_short s.main main m short.1) (All-nil (HasListsWithin 1048576)))

-- modules that aren't linked
pub not_linked : (libraries : List Library) (main : Module) (fault : MatchFault) → IsCause libraries main fault → IsJoined libraries main (Err (of_match fault))
not_linked libraries main matches.Memory h = tt
not_linked libraries main (matches.SameName k) h = h
not_linked libraries main (matches.GlobalImport k n) h = h
not_linked libraries main (matches.NotClosed k) h = h
not_linked libraries main (matches.Start k) h = h
not_linked libraries main (matches.Unknown k n) h = h
not_linked libraries main (matches.Mismatch k n) h = h
not_linked libraries main (matches.Second k single) h = h

-- the first file whose bytes spell no module is one of the libraries', or that of the main module behind them
undecoded_more : (paths bs more others : List Text) (path : Text) (fault : DecodeFault) → IsFirstUndecoded paths bs path fault → IsFirstUndecoded (paths ++ more) (bs ++ others) path fault
undecoded_more [] bs more others path fault h = absurd h
undecoded_more (p ∷ ps) [] more others path fault h = absurd h
undecoded_more (p ∷ ps) (b ∷ bs) more others path fault (inl h) = inl h
undecoded_more (p ∷ ps) (b ∷ bs) more others path fault (inr h) = inr (h.0, undecoded_more ps bs more others path fault h.1)

undecoded_behind : (named : List NamedFile) (bs : List Text) (libraries : List Library) (more others : List Text) (path : Text) (fault : DecodeFault)
    → AreLibraries named bs libraries → IsFirstUndecoded more others path fault → IsFirstUndecoded (map file_of named ++ more) (bs ++ others) path fault
undecoded_behind [] [] [] more others path fault l h = h
undecoded_behind [] [] (l ∷ ls) more others path fault h u = absurd h
undecoded_behind [] (b ∷ bs) ls more others path fault h u = absurd h
undecoded_behind (n ∷ named) [] ls more others path fault h u = absurd h
undecoded_behind (n ∷ named) (b ∷ bs) [] more others path fault h u = absurd h
undecoded_behind (n ∷ named) (b ∷ bs) (l ∷ ls) more others path fault h u =
    inr ((l.«module», h.1), undecoded_behind named bs ls more others path fault h.2 u)

pub libraries_unjoined : (named : List NamedFile) (main : Text) (s : Sources) (refusal : Refusal) → AreLibrariesDecoded named s.libraries (Err refusal) → IsSourceJoined named main s (Err refusal)
libraries_unjoined named main s (refusals.NotDecodedAt p fault) h = undecoded_more (map file_of named) s.libraries (main ∷ []) (s.main ∷ []) p fault h
libraries_unjoined named main s refusals.Memory h = h
libraries_unjoined named main s refusal h = absurd h

pub main_unjoined : (named : List NamedFile) (main : Text) (s : Sources) (libraries : List Library) (refusal : Refusal)
    → AreLibraries named s.libraries libraries → IsDecodedAt main s.main (Err refusal) → IsSourceJoined named main s (Err refusal)
main_unjoined named main s libraries (refusals.NotDecodedAt p fault) l h =
    undecoded_behind named s.libraries libraries (main ∷ []) (s.main ∷ []) p fault l (inl (sym h.0, h.1))
main_unjoined named main s libraries refusals.Memory l h = h
main_unjoined named main s libraries refusal l h = absurd h

pub source_joined : (named : List NamedFile) (main : Text) (s : Sources) (libraries : List Library) (m : Module) (r : Result Module Refusal)
    → AreLibraries named s.libraries libraries → Spells s.main m → IsJoined libraries m r → IsSourceJoined named main s r
source_joined named main s libraries m (Ok j) l d h =
    (program libraries m h.0, record { modules = record { spells_libraries = l; spells_main = d }; binds = h.1 }, h.2)
source_joined named main s libraries m (Err (refusals.NotLinked fault)) l d h =
    record { libraries = libraries; main = m; modules = record { spells_libraries = l; spells_main = d }; refused = h }
source_joined named main s libraries m (Err refusals.Memory) l d h = h
source_joined named main s libraries m (Err refusal) l d h = absurd h

-- ---- the joined module

-- a module whose bytes are known is taken, or not
pub source_taken : (bytes : Text) (m : Module) (r : Result Typed Refusal) → Spells bytes m → IfOk r (λ t. t ≡ m) → IsTaken m r → IsSourceTaken bytes r
source_taken bytes m (Ok t) s same h =
    let taken : HasModule bytes m = record { spells = s; in_profile = h.0; valid = h.1; low = h.2 } in
    subst (HasModule bytes) (sym same) taken
source_taken bytes m (Err (refusals.NotInProfile fault)) s same h = record { module' = m; spells = s; refused = h }
source_taken bytes m (Err (refusals.NotValid fault)) s same h = record { module' = m; spells = s; in_profile = h.0; refused = h.1 }
source_taken bytes m (Err refusals.Memory) s same h = h
source_taken bytes m (Err refusal) s same h = absurd h

pub source_untaken : (named : List NamedFile) (main : Text) (s : Sources) (refusal : Refusal) → IsSourceJoined named main s (Err refusal) → IsSourceTakenJoin named main s (Err refusal)
source_untaken named main s (refusals.NotDecodedAt p fault) h = h
source_untaken named main s (refusals.NotLinked fault) h = h
source_untaken named main s refusals.Memory h = h
source_untaken named main s refusal h = absurd h

joined_refused : (named : List NamedFile) (main : Text) (s : Sources) (p : Program) (refusal : Refusal)
    → AreLinked named s p → IsTaken (joined p) (Err refusal) → IsSourceTakenJoin named main s (Err refusal)
joined_refused named main s p (refusals.NotInProfile fault) l h = record { program = p; linked = l; refused = h }
joined_refused named main s p (refusals.NotValid fault) l h = record { program = p; linked = l; in_profile = h.0; refused = h.1 }
joined_refused named main s p refusals.Memory l h = h
joined_refused named main s p refusal l h = absurd h

-- the joined module was taken, or not
pub joined_taken : (named : List NamedFile) (main : Text) (s : Sources) (p : Program) (m : Module) (r : Result Typed Refusal)
    → AreLinked named s p → m ≡ joined p → IfOk r (λ t. t ≡ m) → IsTaken m r → IsSourceTakenJoin named main s r
joined_taken named main s p m (Ok t) l is same h =
    let taken : IsTaken (joined p) (Ok t) = subst (λ (n : Module). IsTaken n (Ok t)) is h in
    (p, record { linked = l; in_profile = taken.0; valid = taken.1; low = taken.2 }, same ∙ is)
joined_taken named main s p m (Err refusal) l is same h =
    joined_refused named main s p refusal l (subst (λ (n : Module). IsTaken n (Err refusal)) is h)

-- ---- the job

-- the files that were read
pub files_of : (script main : Text) (libraries : List NamedFile) (before after : FilesState) (i : JoinInputs) → AreSourcesRead script libraries main before after (Ok i) → HasFiles script libraries main before.content
files_of script main libraries before after i h =
    record { script_bytes = i.script; sources = i.sources; reads_script = h.1; reads_libraries = h.2; reads_main = h.3 }

-- a file was refused
pub join_unread : (script main : Text) (libraries : List NamedFile) (before after : FilesState) (out : SinkState) (refusal : Refusal)
    → AreSourcesRead script libraries main before after (Err refusal) → IsJoinFirst main script libraries (outside before out) (outside after out) (Err refusal)
join_unread script main libraries before after out (refusals.CannotRead p) h = (h.0, h.1, refl)
join_unread script main libraries before after out (refusals.TooLong p c) h = (h.0, h.1, h.3, ap (λ f. outside f out) h.2)
join_unread script main libraries before after out refusals.Memory h = ap (λ f. outside f out) h
join_unread script main libraries before after out refusal h = absurd h

-- the script was refused
pub join_no_lines : (script main : Text) (libraries : List NamedFile) (before after : FilesState) (out : SinkState) (i : JoinInputs) (refusal : Refusal)
    → AreSourcesRead script libraries main before after (Ok i) → AreLinesRead (script_read i.script) (Err refusal) → IsJoinFirst main script libraries (outside before out) (outside after out) (Err refusal)
unfolding files_of
join_no_lines script main libraries before after out i (refusals.Script n low) r h =
    (files_of script main libraries before after i r, h, ap (λ f. outside f out) r.0)
join_no_lines script main libraries before after out i refusals.Memory r h = ap (λ f. outside f out) r.0
join_no_lines script main libraries before after out i refusal r h = absurd h

-- the modules were refused, or what they make together
pub join_untaken : (script main : Text) (libraries : List NamedFile) (before after : FilesState) (out : SinkState) (i : JoinInputs) (ls : List ScriptLine) (refusal : Refusal)
    → AreSourcesRead script libraries main before after (Ok i) → script_read i.script ≡ lines ls → IsSourceTakenJoin libraries main i.sources (Err refusal)
    → IsJoinFirst main script libraries (outside before out) (outside after out) (Err refusal)
unfolding files_of
join_untaken script main libraries before after out i ls (refusals.NotDecodedAt p fault) r s h =
    (record { files = files_of script main libraries before after i r; is_script = (ls, s) }, h, ap (λ f. outside f out) r.0)
join_untaken script main libraries before after out i ls (refusals.NotLinked fault) r s h =
    (record { files = files_of script main libraries before after i r; is_script = (ls, s) }, h, ap (λ f. outside f out) r.0)
join_untaken script main libraries before after out i ls (refusals.NotInProfile fault) r s h =
    (record { files = files_of script main libraries before after i r; is_script = (ls, s) }, h, ap (λ f. outside f out) r.0)
join_untaken script main libraries before after out i ls (refusals.NotValid fault) r s h =
    (record { files = files_of script main libraries before after i r; is_script = (ls, s) }, h, ap (λ f. outside f out) r.0)
join_untaken script main libraries before after out i ls refusals.Memory r s h = ap (λ f. outside f out) r.0
join_untaken script main libraries before after out i ls refusal r s h = absurd h

-- what is told by the reduction of the joined module is told by that of the linked ones
tells_linked : (p : Program) (ls : List ScriptLine) → Valid (joined p) → LinesTellLinked p ls
tells_linked p ls valid read h = lines_tell p (pack_view read) ls (report (pack_view read) ls (loaded (pack_view read))) valid h

-- DIR wasn't seen to be empty
pub join_unseen : (script main dir ns : Text) (libraries : List NamedFile) (before between after : FilesState) (out : SinkState) (i : JoinInputs) (p : Program) (ls : List ScriptLine) (fault : PutFault)
    → AreSourcesRead script libraries main before between (Ok i) → script_read i.script ≡ lines ls → HasJoined libraries i.sources p → IsSeen between after dir (Err fault)
    → IsJoinAnswered main dir ns script libraries (outside before out) (outside after out) (Err (of_put fault))
unfolding files_of
join_unseen script main dir ns libraries before between after out i p ls fault read s j h =
    inr (
      p,
      ls,
      record { files = files_of script main libraries before between i read; has_joined = j; is_script = s },
      inl (fault, subst (λ (f : FilesState). IsSeen f after dir (Err fault)) read.0 h, refl, refl),
    )

-- the pack of the joined module was written, read back and played, or not
pub join_done : (script main dir ns : Text) (libraries : List NamedFile) (before between : FilesState) (out : SinkState) (after : Outside) (i : JoinInputs) (p : Program) (pack : Written) (ls : List ScriptLine) (r : End)
    → AreSourcesRead script libraries main before between (Ok i) → script_read i.script ≡ lines ls → HasJoined libraries i.sources p → IsPackFor ns (joined p) pack → is_written pack ≡ true
    → IsExecEnd dir (joined p) pack ls (outside between out) after r → IsJoinAnswered main dir ns script libraries (outside before out) after r
unfolding files_of
join_done script main dir ns libraries before between out after i p pack ls r read s j is_pack written h =
    inr (
      p,
      ls,
      record { files = files_of script main libraries before between i read; has_joined = j; is_script = s },
      inr (
        pack,
        record { is_pack = is_pack; written = written; tells = tells_linked p ls j.valid },
        subst (λ (f : FilesState). IsExecEnd dir (joined p) pack ls (outside f out) after r) read.0 h,
      ),
    )
