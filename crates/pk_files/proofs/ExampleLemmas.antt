-- A worked pack, and the folder that holds it.
use Rattle.std.proofs.Common.{◌≡◌, sym, refl, [], Some, None, Option, codes, arith, true, true≢false}
use Rattle.std.proofs.lemmas.Bool.{leb-true}
use Rattle.std.specs.Prelude.{IsSome}
use Rattle.std.specs.Fmt.{digits}
use Rattle.std.specs.Str.{is_utf8, chars}
use Rattle.std.specs.Ordering.{nat_cmp}
use Rattle.std.specs.Cmp.Lexicographic.{slice_cmp}
use Rattle.std.specs.FinMap.{empty, get-empty}
use Rattle.serde_json.proofs.OnLiterals.{serde_json_on_literals}
use Rattle.io_dev.specs.Names.{IsListing}
use Rattle.mc_cmd.specs.Form.{Text}
use Rattle.mc_cmd.specs.Grammar.{line_said}
use Rattle.mc_cmd.specs.Packing.{is_pack_namespace, is_entry}
use Rattle.mc_cmd.specs.Word.{is_namespace}
use Rattle.std.specs.List.{list_all}
use Rattle.pk_files.specs.Example.{worked_pack}
use Rattle.pk_files.specs.Held.{Holds}
use Rattle.pk_files.specs.Put.{AreWithin, IsReadBack, pack_files, put_all}
use Rattle.pk_files.specs.Told.{Told, same}
use Rattle.pk_files.proofs.HoldsLemmas.{told_holds}

absent : {A : Type 0} (o : Option A) → o ≡ None → IsSome o → ⊥
absent None e h = true≢false (sym h)
absent (Some a) e h = cc

no_names : (dir : Text) → IsListing empty dir []
no_names dir name = (λ c. absurd (omega (arith, c.1)), λ s. absurd (absent _ (get-empty (slice_cmp nat_cmp) s.0) s.1))

a_namespace : is_pack_namespace worked_pack.index.ns ≡ true
unfolding is_namespace
a_namespace = refl

some_entries : list_all is_entry worked_pack.functions ≡ true
unfolding line_said
some_entries = refl

read_back : IsReadBack worked_pack.index
unfolding serde_json_on_literals digits is_utf8 chars is_namespace
read_back = record { index = refl; load = refl; tick = refl }

short : AreWithin (pack_files (codes "out") worked_pack)
unfolding serde_json_on_literals digits
short =
    (leb-true _ _ refl, (leb-true _ _ refl, (leb-true _ _ refl, (leb-true _ _ refl, (leb-true _ _ refl, (leb-true _ _ refl, tt))))))

pub worked : (q : Told) × Holds (put_all (Some empty) (pack_files (codes "out") worked_pack)) (codes "out") q × same worked_pack q
worked = told_holds empty (codes "out") worked_pack a_namespace (omega arith) some_entries refl (no_names (codes "out")) read_back short
