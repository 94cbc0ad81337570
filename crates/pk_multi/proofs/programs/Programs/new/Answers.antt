use Rattle.std.proofs.Common.{◌≡◌, ◌∙◌, ◌<◌, ◌≤◌, None, ap, sym, subst, map, length, arith}
use Rattle.std.proofs.lemmas.List.{length-map}
use Rattle.mc_cmd.specs.Packing.{Written, pack_view}
use Rattle.mc_engine.specs.EngineView.{Shown}
use Rattle.mc_together.specs.Programs.{MayLiveTogether}
use Rattle.pk_multi.specs.Counting.{AreNamed}
use Rattle.pk_multi.specs.Making.{AreApart, AreTidy, AreWritten, IsFirstSame, IsUntidyPack}
use Rattle.pk_multi.specs.State.{IsMade}
use Rattle.pk_multi.proofs.LoopLemmas.{named_count}
use Rattle.pk_multi.proofs.MakingLemmas.{err_is, live_together, made, untidy_refused}
use Rattle.pk_multi.proofs.programs.Programs.new.Goals as goal

pub returns-in_err-programs : goal.returns-in_err-programs
returns-in_err-programs c =
    let ws = c.args.packs.items in
    let apart : AreApart ws (length ws) = subst (λ vs. IsFirstSame vs None) c.as_slice.ensures.value (subst (IsFirstSame c.as_slice.result.now) c.in_default.is c.same_space.ensures) in
    let fault : IsUntidyPack ws c.in_err-programs.field-0.0 = subst (λ vs. IsUntidyPack vs c.in_err-programs.field-0.0) c.as_slice-2.ensures.value c.in_err-programs.ensures.fault in
    subst (IsMade ws) (sym (err_is c.from_residual.result c.in_err-programs.field-0.0 c.from_residual.ensures)) (untidy_refused ws c.in_err-programs.field-0.0 apart fault)

pub invariant_of-result : goal.invariant_of-result
invariant_of-result c =
    let ws = c.args.packs.items in
    let ps = c.in_ok-programs.programs.items in
    let packs = ap (λ (s : Shown). s.packs) c.in_ok-engine.ensures.shown in
    let apart : AreApart ws (length ws) = subst (λ vs. IsFirstSame vs None) c.as_slice.ensures.value (subst (IsFirstSame c.as_slice.result.now) c.in_default.is c.same_space.ensures) in
    let named : AreNamed ps ws = subst (AreNamed ps) c.as_slice-2.ensures.value c.in_ok-programs.ensures.named in
    let written : AreWritten ws (length ws) = subst (λ vs. AreWritten vs (length vs)) c.as_slice-2.ensures.value c.in_ok-programs.ensures.written in
    let tidy : AreTidy ws (length ws) = subst (λ vs. AreTidy vs (length vs)) c.as_slice-2.ensures.value c.in_ok-programs.ensures.tidy in
    let count = named_count ps ws named in
    let same : length (map pack_view ws) ≡ length ws = length-map ws pack_view in
    let some : 0 < length ps = omega (arith, count, same, c.requires.some) in
    let few : length ps ≤ 16 = omega (arith, count, same, c.requires.few) in
    record {
      some = some;
      few = few;
      named = named ∙ ap (map (λ (w : Written). w.index.ns)) (sym packs);
      apart = subst MayLiveTogether (sym packs) (live_together ws apart written tidy);
    }

pub returns : goal.returns
returns c =
    let ws = c.args.packs.items in
    let apart : AreApart ws (length ws) = subst (λ vs. IsFirstSame vs None) c.as_slice.ensures.value (subst (IsFirstSame c.as_slice.result.now) c.in_default.is c.same_space.ensures) in
    let written : AreWritten ws (length ws) = subst (λ vs. AreWritten vs (length vs)) c.as_slice-2.ensures.value c.in_ok-programs.ensures.written in
    let tidy : AreTidy ws (length ws) = subst (λ vs. AreTidy vs (length vs)) c.as_slice-2.ensures.value c.in_ok-programs.ensures.tidy in
    (live_together ws apart written tidy, made _ ws c.in_ok-programs.programs.items c.in_ok-engine.ensures.shown c.in_ok-programs.ensures.fresh)
