use Rattle.std.proofs.Common.{◌≡◌, ◌∙◌, ◌+◌, ◌<◌, ◌++◌, ◌∷◌, [], suc, true, length, take, Some, None, refl, sym, ap, subst, arith}
use Rattle.std.specs.Prelude.{slice_get}
use Rattle.std.proofs.lemmas.Option.{slice_get_read}
use Rattle.mc_cmd.specs.declared.pack.Index.{Index}
use Rattle.mc_layout.specs.declared.layout_names.LayoutNames.{LayoutNames}
use Rattle.mc_together.specs.Programs.{all_tidy}
use Rattle.pk_multi.specs.Counting.{AreFresh, AreNamed}
use Rattle.pk_multi.specs.Making.{IsUntidyHere, IsUntidyIn}
use Rattle.pk_multi.proofs.MakingLemmas.{fresh_more, named_more, tidy_packs_more, written_more}
use Rattle.pk_multi.proofs.making.programs_of.Goals as goal

pub returns-in-Some-clause-fault : goal.returns-in-Some-clause-fault
returns-in-Some-clause-fault c =
    let w = c.index-packs-index.result in
    let there : c.loop-index.index < length c.args.packs.now = omega arith in
    let at : slice_get c.args.packs.now c.loop-index.index ≡ Some w = slice_get_read c.args.packs.now _ c.loop-index.index w refl there c.index-packs-index.is in
    let space : c.in_ok-names.names.ns ≡ w.index.ns = c.in_ok-names.ensures ∙ ap (λ (i : Index). i.ns) c.index.ensures.index in
    let found : IsUntidyIn c.in_ok-names.names.ns w (Some c.in-Some.field-0) = subst (IsUntidyIn c.in_ok-names.names.ns w) c.in-Some.is c.in_ok-name.ensures in
    let own : IsUntidyIn w.index.ns w (Some c.in-Some.field-0) = subst (λ ns. IsUntidyIn ns w (Some c.in-Some.field-0)) space found in
    (c.loop-index.invariant.tidy, subst (λ o. IsUntidyHere o c.in-Some.field-0) (sym at) own)

pub loop-index-preserved : goal.loop-index-preserved
loop-index-preserved c =
    let ws = c.args.packs.now in
    let i = c.loop-index.index in
    let w = c.index-packs-index.result in
    let ps = c.loop-index.programs.items in
    let p = c.new-in-loop-index.result in
    let there : i < length ws = omega arith in
    let at : slice_get ws i ≡ Some w = slice_get_read ws _ i w refl there c.index-packs-index.is in
    let space : c.in_ok-names.names.ns ≡ w.index.ns = c.in_ok-names.ensures ∙ ap (λ (i : Index). i.ns) c.index.ensures.index in
    let same : p.names.ns ≡ w.index.ns = ap (λ (n : LayoutNames). n.ns) c.new-in-loop-index.ensures.names ∙ space in
    let none : IsUntidyIn c.in_ok-names.names.ns w None = subst (IsUntidyIn c.in_ok-names.names.ns w) c.in_default.is c.in_ok-name.ensures in
    let tidy : all_tidy w.index.ns w.functions ≡ true = subst (λ ns. all_tidy ns w.functions ≡ true) space none in
    let items : c.push.new.self.items ≡ ps ++ (p ∷ []) = c.in_ok-push.ensures.items in
    let next : i + 1 ≡ suc i = omega arith in
    record {
      named = subst (λ qs. AreNamed qs (take (i + 1) ws)) (sym items) (subst (λ k. AreNamed (ps ++ (p ∷ [])) (take k ws)) (sym next) (named_more ps p ws i w at c.loop-index.invariant.named same));
      fresh = subst AreFresh (sym items) (fresh_more ps p c.loop-index.invariant.fresh c.new-in-loop-index.ensures.count);
      written = written_more ws i w at c.loop-index.invariant.written c.index.ensures.written;
      tidy = tidy_packs_more ws i w at c.loop-index.invariant.tidy tidy;
    }
