use Rattle.std.proofs.Common.{arith, ◌≡◌, ◌∙◌, ap, refl, sym, subst, length, map, Some}
use Rattle.std.specs.Prelude.{◌-◌, slice_get}
use Rattle.std.specs.Int.{w32}
use Rattle.std.proofs.lemmas.Int.{to_z_pos}
use Rattle.std.proofs.lemmas.Option.{slice_get_read}
use Rattle.mc_cmd.specs.Packing.{pack_view}
use Rattle.mc_cmd.specs.Chain.{chain_from}
use Rattle.mc_cmd.specs.Pack.{functions_of}
use Rattle.mc_together.specs.Programs.{MayLiveTogether}
use Rattle.mc_engine.specs.EngineView.{Shown, shown}
use Rattle.pk_multi.specs.Entry.{function_of}
use Rattle.pk_multi.proofs.TurnLemmas.{length_set, named_kept, ruled_by, turn}
use Rattle.pk_multi.proofs.programs.Programs.run.Goals as goal

pub returns-clause-event : goal.returns-clause-event
returns-clause-event c =
    let ps = c.args.self.now.programs.items in
    let ws = (shown c.args.self.now.engine).packs in
    let p = c.in-Some.program.now in
    let g : slice_get ps c.args.who ≡ Some p = slice_get_read ps (length ps) c.args.who p refl c.requires.place c.in-Some.ensures.value in
    let ruled = c.set_rule.ensures.rule ∙ ap (λ z. ruled_by (shown c.args.self.now.engine) z) (to_z_pos w32 c.args.share (omega (arith, c.requires.small))) in
    let f = c.start_of-start.result.now in
    let world = c.in_ok-chained.ensures.world ∙ ap (λ (s : Shown). (chain_from (functions_of (map pack_view s.packs)) f c.args.share s.world).world) ruled in
    let used = c.in_ok-chained.ensures.used ∙ ap (λ (s : Shown). c.args.share - (chain_from (functions_of (map pack_view s.packs)) f c.args.share s.world).left) ruled in
    let cut = c.in_ok-chained.ensures.cut ∙ ap (λ (s : Shown). (chain_from (functions_of (map pack_view s.packs)) f c.args.share s.world).cut) ruled in
    turn ps ws (shown c.args.self.now.engine).world _ c.args.who p c.count.new.self f c.args.self.now.ticks _ _ c.args.self.now.named g (function_of c.args.entry) c.args.share c.start_of-start.ensures
    (world, used, cut) (c.count.ensures.used, c.count.ensures.cut, c.count.ensures.share)

pub invariant_of-self-2 : goal.invariant_of-self-2
invariant_of-self-2 c =
    let old = c.args.self.now in
    let ps = old.programs.items in
    let p = c.in-Some.program.now in
    let g : slice_get ps c.args.who ≡ Some p = slice_get_read ps (length ps) c.args.who p refl c.requires.place c.in-Some.ensures.value in
    let packs : (shown c.chain.new.self).packs ≡ (shown old.engine).packs = c.chain.ensures.packs ∙ ap (λ (s : Shown). s.packs) c.set_rule.ensures.rule in
    let same = length_set ps c.args.who c.count.new.self in
    record {
      some = omega (arith, same, old.some);
      few = omega (arith, same, old.few);
      named = named_kept ps (shown old.engine).packs _ c.args.who p c.count.new.self g c.count.ensures.names packs old.named;
      apart = subst MayLiveTogether (sym packs) old.apart;
    }
