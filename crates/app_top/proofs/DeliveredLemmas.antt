-- A pack that was written into an empty folder is the one that the folder holds.
use Rattle.std.proofs.Common.{◌≡◌, ◌∙◌, sym, ap, refl, subst, ◌≤◌, List, [], ◌∷◌, ◌++◌, length, Bool, true, false, cond, Option, Some, None, Ok, codes, arith}
use Rattle.std.specs.List.{AllByRecursion}
use Rattle.std.specs.Map.{lookup}
use Rattle.std.specs.Str.{bytes_eq}
use Rattle.io_dev.specs.Files.{FilesState}
use Rattle.io_dev.specs.Folder.{Folder}
use Rattle.io_dev.specs.Names.{IsListing, IsListingOf}
use Rattle.mc_cmd.specs.Chain.{Texts}
use Rattle.mc_cmd.specs.Form.{Text}
use Rattle.mc_cmd.specs.Layout.{full_name}
use Rattle.wm_ast.specs.declared.module.Module.{Module}
use Rattle.mc_cmd.specs.Pack.{Index, Pack}
use Rattle.mc_cmd.specs.Packing.{Written, index_view, is_pack_namespace, is_written, pack_view}
use Rattle.mc_cmd.specs.Tidy.{Tidy}
use Rattle.mc_cmd.specs.Word.{is_namespace}
use Rattle.mc_cmd.proofs.FormLemmas.{and_first}
use Rattle.mc_cmd.proofs.NameLemmas.{namespace_short}
use Rattle.mc_cmd.proofs.PackLemmas.{same_pack}
use Rattle.mc_cmd.specs.Lines.{IsShort}
use Rattle.pk_files.specs.Folder.{IsPackWritten}
use Rattle.pk_files.specs.Put.{AreWithin, File, function_files, pack_files, put_all}
use Rattle.pk_files.specs.Told.{Told, told_of, pack_told, same}
use Rattle.pk_files.specs.Held.{Holds}
use Rattle.pk_files.proofs.HoldsLemmas.{written_holds}
use Rattle.pk_files.proofs.Lengths.{tag-within, index-within, meta-within}
use Rattle.pk_files.proofs.WrittenLemmas.{put_all-told}
use Rattle.pk_agree.specs.Agree.{Agrees}
use Rattle.pk_agree.specs.Resume.{Resumable}
use Rattle.pk_agree.specs.Stepwise.{Stepwise}
use Rattle.pk_link.specs.Linked.{IsPackFor}
use Rattle.app_top.specs.Jobs.{HoldsPackOf, IsTidy}

-- no file of such a pack is too long
functions_within : (dir ns : Text) (fs : List (Text × Texts)) (rest : List File) → AllByRecursion (λ e. IsShort e.1) fs → AreWithin rest → AreWithin (function_files dir ns fs ++ rest)
functions_within dir ns [] rest h r = r
functions_within dir ns (f ∷ fs) rest h r = (h.0.short, functions_within dir ns fs rest h.1 r)

files_within : (dir ns : Text) (m : Module) (w : Written) → is_written w ≡ true → IsPackFor ns m w → AreWithin (pack_files dir (told_of w))
files_within dir ns m w written is_pack =
    functions_within dir w.index.ns w.functions _ is_pack.functions
    (tag-within w.index.ns (codes "load") short (omega arith), (tag-within w.index.ns (codes "tick") short (omega arith), (index-within (index_view w.index) short is_pack.few is_pack.light, (meta-within, tt))))
  where
    short : length w.index.ns ≤ 16
    short = namespace_short w.index.ns (and_first (is_namespace w.index.ns) _ (and_first (is_pack_namespace w.index.ns) _ written))

-- a pack and one that is the same are played alike
pub told_pack_is : (w : Written) (q : Told) → same (told_of w) q → pack_view w ≡ pack_told q
told_pack_is w q s =
    let v : Written = record { index = w.index; functions = q.functions } in
    same_pack w v refl s.functions
    ∙ ap (λ (i : Index). let r : Pack = record { index = i; functions = λ f. lookup (λ n. bytes_eq f (full_name i.ns n)) q.functions } in r) s.index

put_none : (files : List File) → put_all None files ≡ None
put_none [] = refl
put_none (f ∷ files) = put_none files

-- the lines that are found among tidy ones are tidy
tidy_found : (ns : Text) (t u : Texts) (b : Bool) (o : Option Texts) → Tidy ns t → (o ≡ Some u → Tidy ns u) → cond b (Some t) o ≡ Some u → Tidy ns u
tidy_found ns t u true o h k e = let x : t ≡ u = cc in subst (Tidy ns) x h
tidy_found ns t u false o h k e = k e

tidy_among : (ns : Text) (test : Text → Bool) (fs : List (Text × Texts)) → AllByRecursion (λ e. Tidy ns e.1) fs → (u : Texts) → lookup test fs ≡ Some u → Tidy ns u
tidy_among ns test [] h u e = absurd cc
tidy_among ns test (f ∷ fs) h u e = tidy_found ns f.1 u (test f.0) (lookup test fs) h.0 (tidy_among ns test fs h.1 u) e

tidy_pack : (ns : Text) (m : Module) (w : Written) → IsPackFor ns m w → IsTidy (pack_view w)
tidy_pack ns m w h name u e = subst (λ (n : Text). Tidy n u) (sym h.namespace) (tidy_among ns (λ n. bytes_eq name (full_name w.index.ns n)) w.functions h.tidy u e)

-- where it is told what the files hold, the folder holds the pack that was written
pub delivered : (before after : FilesState) (dir ns : Text) (m : Module) (w : Written)
    → is_written w ≡ true → IsPackFor ns m w → IsPackWritten before after dir w (Ok tt) → HoldsPackOf after.content dir m w
delivered before after dir ns m w written is_pack h = go before.content refl
  where
    files : List File
    files = pack_files dir (told_of w)

    put : after.content ≡ put_all before.content files
    put = ap (λ (s : FilesState). s.content) h.1

    go : (o : Option Folder) → before.content ≡ o → HoldsPackOf after.content dir m w
    go None e = subst (λ (c : Option Folder). HoldsPackOf c dir m w) (sym (put ∙ ap (λ c. put_all c files) e ∙ put_none files)) tt
    go (Some folder) e =
        let bare : IsListing folder dir [] = subst (λ (o : Option Folder). IsListingOf o dir []) e h.0.bare in
        let held = written_holds folder dir w written bare h.0.read_back (files_within dir ns m w written is_pack) in
        let told = put_all-told folder files in
        let same = told_pack_is w held.0 held.2 in
        subst (λ (c : Option Folder). HoldsPackOf c dir m w) (sym (put ∙ ap (λ c. put_all c files) e ∙ told))
        (held.0, subst (λ (c : Option Folder). Holds c dir held.0) told held.1, held.2, subst (Agrees m) same is_pack.agrees, subst (Stepwise m) same is_pack.stepwise, subst (Resumable m) same is_pack.resumable, subst IsTidy same (tidy_pack ns m w is_pack))
