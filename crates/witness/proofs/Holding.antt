-- The files of each pack of the example under one namespace hold it.
use Rattle.std.proofs.Common.{◌≡◌, List, [], ◌∷◌, ◌++◌, true, true≢false, Option, Some, None, codes, refl, sym, ap, ◌∙◌, subst, arith}
use Rattle.std.proofs.lemmas.Bool.{leb-true}
use Rattle.std.specs.Prelude.{IsSome}
use Rattle.std.specs.Cmp.Lexicographic.{slice_cmp}
use Rattle.std.specs.FinMap.{empty, get-empty}
use Rattle.std.specs.Fmt.{digits}
use Rattle.std.specs.List.{AllByRecursion}
use Rattle.std.specs.Ordering.{nat_cmp}
use Rattle.std.specs.Map.{lookup}
use Rattle.std.specs.Str.{bytes_eq, is_utf8, chars}
use Rattle.serde_json.proofs.OnLiterals.{serde_json_on_literals}
use Rattle.io_dev.specs.Names.{IsListing}
use Rattle.mc_cmd.specs.Chain.{Texts}
use Rattle.mc_cmd.specs.Form.{Text}
use Rattle.mc_cmd.specs.Layout.{full_name}
use Rattle.mc_cmd.specs.Pack.{Index, Pack}
use Rattle.mc_cmd.specs.Packing.{Written, index_view, is_written, pack_view}
use Rattle.mc_cmd.specs.Word.{is_namespace}
use Rattle.mc_cmd.proofs.PackLemmas.{same_pack}
use Rattle.mc_cmd.specs.Lines.{IsShort}
use Rattle.pk_files.specs.Put.{AreWithin, File, IsReadBack, function_files, last_files}
use Rattle.pk_files.specs.Told.{Told, pack_told, same, told_of}
use Rattle.pk_files.proofs.HoldsLemmas.{written_holds}
use Rattle.pk_link.specs.Linked.{IsPackFor}
use Rattle.witness.specs.Example.{example}
use Rattle.witness.specs.Played.{export_types, IsPlayed}
use Rattle.witness.specs.Holding.{IsHeld}
use Rattle.witness.proofs.Packs.{exports_are, is_played}

-- a folder with no file shows no name
absent : {A : Type 0} (o : Option A) → o ≡ None → IsSome o → ⊥
absent None e h = true≢false (sym h)
absent (Some a) e h = cc

no_names : (dir : Text) → IsListing empty dir []
no_names dir name = (λ c. absurd (omega (arith, c.1)), λ s. absurd (absent _ (get-empty (slice_cmp nat_cmp) s.0) s.1))

-- ---- the index

abbrev the_index : Index
the_index = record { ns = codes "wk"; exports = export_types }

index_is : (w : Written) → IsPackFor (codes "wk") example w → index_view w.index ≡ the_index
index_is w h = λ i. record { ns = h.namespace i; exports = exports_are (index_view w.index).exports h.agrees.exports i }

read_back : IsReadBack the_index
unfolding serde_json_on_literals digits is_utf8 chars is_namespace
read_back = record { index = refl; load = refl; tick = refl }

last_within : AreWithin (last_files (codes "out") the_index)
unfolding serde_json_on_literals digits
last_within = (leb-true _ _ refl, (leb-true _ _ refl, (leb-true _ _ refl, (leb-true _ _ refl, tt))))

-- ---- the files

all_within : (ns : Text) (fs : List (Text × Texts)) (rest : List File) → AllByRecursion (λ e. IsShort e.1) fs → AreWithin rest
    → AreWithin (function_files (codes "out") ns fs ++ rest)
all_within ns [] rest h r = r
all_within ns (f ∷ fs) rest h r = (h.0.short, all_within ns fs rest h.1 r)

-- a pack and one that is the same are played alike
told_pack_is : (w : Written) (q : Told) → same (told_of w) q → pack_view w ≡ pack_told q
told_pack_is w q s =
    let v : Written = record { index = w.index; functions = q.functions } in
    same_pack w v refl s.functions
    ∙ ap (λ (i : Index). let r : Pack = record { index = i; functions = λ f. lookup (λ n. bytes_eq f (full_name i.ns n)) q.functions } in r) s.index

pub is_held : (w : Written) → is_written w ≡ true → IsPackFor (codes "wk") example w → IsHeld w
is_held w written h =
    let is : index_view w.index ≡ the_index = index_is w h in
    let (q, holds, alike) =
    written_holds empty (codes "out") w written (no_names (codes "out"))
    (subst IsReadBack (sym is) read_back)
    (subst (λ (i : Index). AreWithin (function_files (codes "out") i.ns w.functions ++ last_files (codes "out") i)) (sym is)
    (all_within (codes "wk") w.functions (last_files (codes "out") the_index) h.functions last_within)) in
    record { pack = q; holds = holds; played = subst IsPlayed (told_pack_is w q alike) (is_played (pack_view w) h.agrees h.resumable) }
