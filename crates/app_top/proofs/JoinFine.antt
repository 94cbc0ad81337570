-- A job that joins modules, of which all that it names is in order, does all or ends for want of memory.
use Rattle.std.proofs.Common.{◌≡◌, ◌∙◌, sym, ap, refl, subst, ℕ, List, [], ◌∷◌, ◌++◌, map, Result, Ok, Err, Option, Some, inl, inr}
use Rattle.io_dev.specs.Folder.{Folder, IsLonger, Reads}
use Rattle.mc_cmd.specs.Form.{Text}
use Rattle.wm_ast.specs.declared.module.Module.{Module}
use Rattle.wm_ast.specs.Spelling.{Spells}
use Rattle.wm_decode.specs.declared.decoding.DecodeFault.{DecodeFault}
use Rattle.wm_decode.proofs.DecodeLaws.{same_module}
use Rattle.wm_profile.specs.Cause.{first_fault}
use Rattle.wm_profile.specs.declared.fault.ProfileFault.{ProfileFault}
use Rattle.wm_profile.proofs.Deciding.{no_fault}
use Rattle.wm_valid.specs.declared.valid_fault.ValidFault.{ValidFault}
use Rattle.wm_valid.specs.declared.valid_fault.ValidFault.TheVariants as valids
use Rattle.wm_valid.specs.Height.{Low}
use Rattle.wm_valid.specs.Valid.{Valid}
use Rattle.wm_valid.proofs.AnswerLaws.{no_cause}
use Rattle.wm_match.specs.declared.fault.MatchFault.{MatchFault}
use Rattle.wm_match.specs.declared.fault.MatchFault.TheVariants as matches
use Rattle.wm_match.specs.declared.library.Binding.{Binding}
use Rattle.wm_match.specs.declared.library.Library.{Library}
use Rattle.wm_match.specs.Binds.{Binds}
use Rattle.wm_match.specs.Cause.{IsCause, program}
use Rattle.wm_match.specs.Program.{Program}
use Rattle.wm_match.proofs.FaultLaws.{IsTold, one_answer}
use Rattle.wm_match.proofs.OneLaws.{one_way}
use Rattle.wm_join.specs.Joined.{joined}
use Rattle.app_words.specs.Act.{ScriptLine}
use Rattle.app_words.specs.Script.{script_read}
use Rattle.app_words.specs.declared.named_files.NamedFile.{NamedFile}
use Rattle.pk_files.specs.Held.{Holds}
use Rattle.pk_files.specs.Told.{Told}
use Rattle.app_top.specs.Complete.{HasJoinedAt, HasScriptAt, IsEmpty, IsFaultless, IsPlayable}
use Rattle.app_top.specs.Jobs.{End, file_cap}
use Rattle.app_top.specs.Joining.{AreLibraries, AreLinked, AreRead, HasFiles, HasJoined, IsFirstUndecoded, IsJoinAnswered, IsJoinFirst, IsJoinedInvalid, IsJoinedOutside, IsNextOf, IsUnlinkable, IsUnlinked, file_of, paths_of}
use Rattle.app_top.specs.Outside.{Outside}
use Rattle.app_top.specs.Source.{IsInvalid}
use Rattle.app_top.specs.declared.inputs.Sources.{Sources}
use Rattle.app_top.specs.declared.refusal.Refusal.TheVariants as refusals
use Rattle.app_top.proofs.FineLemmas.{IsFine, none_some, not_undecoded, unseen_fine}
use Rattle.app_top.proofs.PlayedLemmas.{exec_fine, not_bad, not_longer, same_bytes, same_lines}

-- ---- what is read

-- what was read is what the files hold
one_reading : (folder : Folder) (paths as' bs : List Text) → AreRead (Some folder) paths as' → AreRead (Some folder) paths bs → as' ≡ bs
one_reading folder [] [] [] h g = refl
one_reading folder [] [] (b ∷ bs) h g = absurd g
one_reading folder [] (a ∷ as') bs h g = absurd h
one_reading folder (p ∷ ps) [] bs h g = absurd h
one_reading folder (p ∷ ps) (a ∷ as') [] h g = absurd g
one_reading folder (p ∷ ps) (a ∷ as') (b ∷ bs) h g =
    ap (λ x. x ∷ as') (same_bytes folder p a b file_cap h.0 g.0) ∙ ap (λ xs. b ∷ xs) (one_reading folder ps as' bs h.1 g.1)

same_sources : (folder : Folder) (main : Text) (libraries : List NamedFile) (s t : Sources) → AreRead (Some folder) (map file_of libraries) s.libraries → Reads (Some folder) main file_cap s.main
    → AreRead (Some folder) (map file_of libraries) t.libraries → Reads (Some folder) main file_cap t.main → s ≡ t
same_sources folder main libraries s t a b c d =
    ap (λ (ls : List Text). let x : Sources = record { libraries = ls; main = s.main } in x) (one_reading folder (map file_of libraries) s.libraries t.libraries a c)
    ∙ ap (λ (m : Text). let x : Sources = record { libraries = t.libraries; main = m } in x) (same_bytes folder main s.main t.main file_cap b d)

-- none of the files is too long
libraries_short : (folder : Folder) (content : Option Folder) (paths bs : List Text) (main main_bytes p : Text) → AreRead (Some folder) paths bs → Reads (Some folder) main file_cap main_bytes
    → IsNextOf content (paths ++ main ∷ []) p → IsLonger (Some folder) p file_cap → ⊥
libraries_short folder content [] bs main main_bytes p r m (inl e) long =
    not_longer folder main main_bytes file_cap m (subst (λ (q : Text). IsLonger (Some folder) q file_cap) (sym e) long)
libraries_short folder content [] bs main main_bytes p r m (inr h) long = h.1
libraries_short folder content (q ∷ qs) [] main main_bytes p r m n long = absurd r
libraries_short folder content (q ∷ qs) (b ∷ bs) main main_bytes p r m (inl e) long =
    not_longer folder q b file_cap r.0 (subst (λ (t : Text). IsLonger (Some folder) t file_cap) (sym e) long)
libraries_short folder content (q ∷ qs) (b ∷ bs) main main_bytes p r m (inr h) long =
    libraries_short folder content qs bs main main_bytes p r.1 m h.1 long

files_short : (folder : Folder) (content : Option Folder) (main script : Text) (libraries : List NamedFile) (ls : List ScriptLine) (p : Text)
    → HasJoinedAt folder main libraries → HasScriptAt folder script ls → IsNextOf content (paths_of script libraries main) p → IsLonger (Some folder) p file_cap → ⊥
files_short folder content main script libraries ls p j s (inl e) long =
    not_longer folder script s.bytes file_cap s.reads (subst (λ (q : Text). IsLonger (Some folder) q file_cap) (sym e) long)
files_short folder content main script libraries ls p j s (inr h) long =
    libraries_short folder content (map file_of libraries) j.sources.libraries main j.sources.main p j.reads_libraries j.reads_main h.1 long

-- ---- modules that can be joined aren't refused

-- bytes that spell modules aren't refused by the decoder
all_decode : (named : List NamedFile) (bs : List Text) (libraries : List Library) (main main_bytes path : Text) (m : Module) (fault : DecodeFault)
    → AreLibraries named bs libraries → Spells main_bytes m → IsFirstUndecoded (map file_of named ++ main ∷ []) (bs ++ main_bytes ∷ []) path fault → ⊥
all_decode [] [] [] main main_bytes path m fault l s (inl h) = not_undecoded main_bytes m fault s h.1
all_decode [] [] [] main main_bytes path m fault l s (inr h) = h.1
all_decode [] [] (x ∷ xs) main main_bytes path m fault l s h = absurd l
all_decode [] (b ∷ bs) xs main main_bytes path m fault l s h = absurd l
all_decode (n ∷ named) [] xs main main_bytes path m fault l s h = absurd l
all_decode (n ∷ named) (b ∷ bs) [] main main_bytes path m fault l s h = absurd l
all_decode (n ∷ named) (b ∷ bs) (x ∷ xs) main main_bytes path m fault l s (inl h) = not_undecoded b x.«module» fault l.1 h.1
all_decode (n ∷ named) (b ∷ bs) (x ∷ xs) main main_bytes path m fault l s (inr h) = all_decode named bs xs main main_bytes path m fault l.2 s h.1

-- the bytes spell no other modules
same_library : (n : NamedFile) (b : Text) (x y : Library) → x.name ≡ n.name → Spells b x.«module» → y.name ≡ n.name → Spells b y.«module» → x ≡ y
same_library n b x y name s other t =
    ap (λ (k : Text). let l : Library = record { name = k; «module» = x.«module» } in l) (name ∙ sym other)
    ∙ ap (λ (m : Module). let l : Library = record { name = y.name; «module» = m } in l) (same_module b x.«module» y.«module» s t)

same_libraries : (named : List NamedFile) (bs : List Text) (xs ys : List Library) → AreLibraries named bs xs → AreLibraries named bs ys → xs ≡ ys
same_libraries [] [] [] [] h g = refl
same_libraries [] [] [] (y ∷ ys) h g = absurd g
same_libraries [] [] (x ∷ xs) ys h g = absurd h
same_libraries [] (b ∷ bs) xs ys h g = absurd h
same_libraries (n ∷ named) [] xs ys h g = absurd h
same_libraries (n ∷ named) (b ∷ bs) [] ys h g = absurd h
same_libraries (n ∷ named) (b ∷ bs) (x ∷ xs) [] h g = absurd g
same_libraries (n ∷ named) (b ∷ bs) (x ∷ xs) (y ∷ ys) h g =
    ap (λ k. k ∷ xs) (same_library n b x y h.0 h.1 g.0 g.1) ∙ ap (λ ks. y ∷ ks) (same_libraries named bs xs ys h.2 g.2)

-- there is one program that the bytes spell
same_program : (named : List NamedFile) (s : Sources) (p q : Program) → AreLinked named s p → AreLinked named s q → p ≡ q
same_program named s p q h g =
    let libraries = same_libraries named s.libraries p.libraries q.libraries h.modules.spells_libraries g.modules.spells_libraries in
    let main = same_module s.main p.main q.main h.modules.spells_main g.modules.spells_main in
    let binds : Binds (program q.libraries q.main p.bindings) =
    subst (λ (m : Module). Binds (program q.libraries m p.bindings)) main (subst (λ (ls : List Library). Binds (program ls p.main p.bindings)) libraries h.binds) in
    ap (λ (ls : List Library). program ls p.main p.bindings) libraries
    ∙ ap (λ (m : Module). program q.libraries m p.bindings) main
    ∙ ap (program q.libraries q.main) (one_way q.libraries q.main p.bindings q.bindings binds g.binds)

-- modules that are linked have no cause for which they aren't
unresolved : (p : Program) (fault : MatchFault) → Binds p → IsCause p.libraries p.main fault → IsTold p.libraries p.main fault → ⊥
unresolved p fault b h t =
    let e : ◌≡◌ {A = Result (List (List Binding)) MatchFault} (Ok p.bindings) (Err fault) = one_answer p.libraries p.main (Ok p.bindings) (Err fault) b h tt t in
    cc

not_unlinkable : (p : Program) (fault : MatchFault) → Binds p → IsUnlinkable p.libraries p.main fault → ⊥
not_unlinkable p matches.Memory b h = h
not_unlinkable p (matches.SameName k) b h = unresolved p (matches.SameName k) b h tt
not_unlinkable p (matches.GlobalImport k n) b h = unresolved p (matches.GlobalImport k n) b h tt
not_unlinkable p (matches.NotClosed k) b h = unresolved p (matches.NotClosed k) b h tt
not_unlinkable p (matches.Start k) b h = unresolved p (matches.Start k) b h tt
not_unlinkable p (matches.Unknown k n) b h = unresolved p (matches.Unknown k n) b h tt
not_unlinkable p (matches.Mismatch k n) b h = unresolved p (matches.Mismatch k n) b h tt
not_unlinkable p (matches.Second k single) b h = unresolved p (matches.Second k single) b h tt

not_unlinked : (named : List NamedFile) (s : Sources) (p : Program) (fault : MatchFault) → AreLinked named s p → IsUnlinked named s fault → ⊥
not_unlinked named s p fault l h =
    let libraries = same_libraries named s.libraries h.libraries p.libraries h.modules.spells_libraries l.modules.spells_libraries in
    let main = same_module s.main h.main p.main h.modules.spells_main l.modules.spells_main in
    not_unlinkable p fault l.binds
    (subst (λ (m : Module). IsUnlinkable p.libraries m fault) main (subst (λ (ls : List Library). IsUnlinkable ls h.main fault) libraries h.refused))

-- nor is the joined module refused
not_joined_outside : (named : List NamedFile) (s : Sources) (p : Program) (fault : ProfileFault) → HasJoined named s p → IsJoinedOutside named s fault → ⊥
not_joined_outside named s p fault j h =
    none_some fault (sym (no_fault (joined p) j.in_profile) ∙ ap (λ (q : Program). first_fault (joined q)) (same_program named s p h.program j.linked h.linked) ∙ h.refused)

not_refused_invalid : (m : Module) (fault : ValidFault) → Valid m → Low m → IsInvalid fault m → ⊥
not_refused_invalid m valids.Memory v l r = r
not_refused_invalid m (valids.Item kind index) v l r = let e : valids.Item kind index ≡ valids.Memory = no_cause m (valids.Item kind index) v l r in cc
not_refused_invalid m (valids.Body n) v l r = let e : valids.Body n ≡ valids.Memory = no_cause m (valids.Body n) v l r in cc
not_refused_invalid m (valids.Height n found) v l r = let e : valids.Height n found ≡ valids.Memory = no_cause m (valids.Height n found) v l r in cc

not_joined_invalid : (named : List NamedFile) (s : Sources) (p : Program) (fault : ValidFault) → HasJoined named s p → IsJoinedInvalid named s fault → ⊥
not_joined_invalid named s p fault j h =
    not_refused_invalid (joined p) fault j.valid j.low
    (subst (λ (q : Program). IsInvalid fault (joined q)) (same_program named s h.program p h.linked j.linked) h.refused)

-- ---- the job

-- what was read of the files is what they hold
joined_of_files : (folder : Folder) (content : Option Folder) (main script : Text) (libraries : List NamedFile) → content ≡ Some folder → (j : HasJoinedAt folder main libraries)
    → (f : HasFiles script libraries main content) → HasJoined libraries f.sources j.program
joined_of_files folder content main script libraries e j f =
    subst (λ (s : Sources). HasJoined libraries s j.program)
    (same_sources folder main libraries j.sources f.sources j.reads_libraries j.reads_main
    (subst (λ (o : Option Folder). AreRead o (map file_of libraries) f.sources.libraries) e f.reads_libraries)
    (subst (λ (o : Option Folder). Reads o main file_cap f.sources.main) e f.reads_main))
    j.has_joined

join_first_fine : (main script : Text) (libraries : List NamedFile) (ls : List ScriptLine) (before after : Outside) (folder : Folder) (r : End)
    → before.files.content ≡ Some folder → HasJoinedAt folder main libraries → HasScriptAt folder script ls → IsFaultless before after → IsJoinFirst main script libraries before after r → IsFine r
join_first_fine main script libraries ls before after folder (Ok u) e j s f h = absurd h
join_first_fine main script libraries ls before after folder (Err refusals.Memory) e j s f h = inr refl
join_first_fine main script libraries ls before after folder (Err (refusals.CannotRead p)) e j s f h = absurd (f.reads h.1.counted)
join_first_fine main script libraries ls before after folder (Err (refusals.TooLong p c)) e j s f h =
    absurd (files_short folder before.files.content main script libraries ls p j s h.0 (subst (λ (o : Option Folder). IsLonger o p file_cap) e (subst (λ (n : ℕ). IsLonger before.files.content p n) h.1 h.2)))
join_first_fine main script libraries ls before after folder (Err (refusals.Script n low)) e j s f h =
    let same = same_bytes folder script h.0.script_bytes s.bytes file_cap (subst (λ (o : Option Folder). Reads o script file_cap h.0.script_bytes) e h.0.reads_script) s.reads in
    absurd (not_bad n low ls (sym h.1 ∙ ap script_read same ∙ s.is_script))
join_first_fine main script libraries ls before after folder (Err (refusals.NotDecodedAt p fault)) e j s f h =
    let k = joined_of_files folder before.files.content main script libraries e j h.0.files in
    absurd (all_decode libraries h.0.files.sources.libraries j.program.libraries main h.0.files.sources.main p j.program.main fault k.linked.modules.spells_libraries k.linked.modules.spells_main h.1)
join_first_fine main script libraries ls before after folder (Err (refusals.NotLinked fault)) e j s f h =
    let k = joined_of_files folder before.files.content main script libraries e j h.0.files in
    absurd (not_unlinked libraries h.0.files.sources j.program fault k.linked h.1)
join_first_fine main script libraries ls before after folder (Err (refusals.NotInProfile fault)) e j s f h =
    let k = joined_of_files folder before.files.content main script libraries e j h.0.files in
    absurd (not_joined_outside libraries h.0.files.sources j.program fault k h.1)
join_first_fine main script libraries ls before after folder (Err (refusals.NotValid fault)) e j s f h =
    let k = joined_of_files folder before.files.content main script libraries e j h.0.files in
    absurd (not_joined_invalid libraries h.0.files.sources j.program fault k h.1)
join_first_fine main script libraries ls before after folder (Err refusal) e j s f h = absurd h

pub join_fine : (main dir ns script : Text) (libraries : List NamedFile) (ks : List ScriptLine) (before after : Outside) (folder : Folder) (r : End)
    → before.files.content ≡ Some folder → HasJoinedAt folder main libraries → IsEmpty folder dir → HasScriptAt folder script ks → ((t : Told) → Holds after.files.content dir t → IsPlayable t ks)
    → IsFaultless before after → IsJoinAnswered main dir ns script libraries before after r → IsFine r
join_fine main dir ns script libraries ks before after folder r e j bare s play f (inl h) =
    join_first_fine main script libraries ks before after folder r e j s f h
join_fine main dir ns script libraries ks before after folder r e j bare s play f (inr (p, ls, has, inl u)) = unseen_fine before after folder dir r e bare f u
join_fine main dir ns script libraries ks before after folder r e j bare s play f (inr (p, ls, has, inr (pack, linked, h))) =
    let files = has.files in
    let alike = same_lines folder script files.script_bytes ks ls s (subst (λ (c : Option Folder). Reads c script file_cap files.script_bytes) e files.reads_script) has.is_script in
    exec_fine before after folder dir (joined p) pack ls r e bare (subst (λ (us : List ScriptLine). (t : Told) → Holds after.files.content dir t → IsPlayable t us) alike play) f h
