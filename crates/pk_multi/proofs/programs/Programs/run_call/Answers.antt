use Rattle.std.proofs.Common.{arith, ◌≡◌, ◌∙◌, ap, refl, sym, subst, length, map, Some}
use Rattle.std.specs.Prelude.{◌-◌, codes, pos, slice_get}
use Rattle.std.specs.Int.{w32}
use Rattle.std.proofs.lemmas.Int.{to_z_pos}
use Rattle.std.proofs.lemmas.Option.{slice_get_read}
use Rattle.mc_nbt.specs.Tree.{list_of}
use Rattle.mc_cmd.specs.Command.{set_value}
use Rattle.mc_cmd.specs.Layout.{full_name, io_of}
use Rattle.mc_cmd.specs.Packing.{pack_view}
use Rattle.mc_cmd.specs.World.{cmd_effect, effect, with_rule}
use Rattle.mc_cmd.specs.Chain.{chain_from}
use Rattle.mc_cmd.specs.Pack.{functions_of, with_args}
use Rattle.mc_cmd.specs.declared.TheConstants.{BMIN}
use Rattle.mc_together.specs.Programs.{MayLiveTogether}
use Rattle.mc_engine.specs.EngineView.{Shown, shown}
use Rattle.mc_layout.specs.Paths.{at_key}
use Rattle.pk_multi.proofs.TurnLemmas.{length_set, named_kept, ruled_by, called}
use Rattle.pk_multi.proofs.programs.Programs.run_call.Goals as goal

pub returns-clause-event : goal.returns-clause-event
returns-clause-event c =
    let ps = c.args.self.now.programs.items in
    let e = shown c.args.self.now.engine in
    let ws = e.packs in
    let p = c.in-Some.program.now in
    let ns = p.names.ns in
    let g : slice_get ps c.args.who ≡ Some p = slice_get_read ps (length ps) c.args.who p refl c.requires.place c.in-Some.ensures.value in
    let ruled : shown c.set_rule.new.self ≡ ruled_by e (pos p.share) = c.set_rule.ensures.rule ∙ ap (λ z. ruled_by e z) (to_z_pos w32 p.share (omega (arith, p.small))) in
    let a = (shown c.apply.new.self).world in
    let packs : (shown c.apply.new.self).packs ≡ ws = ap (λ (s : Shown). s.packs) c.apply.ensures.others ∙ ap (λ (s : Shown). s.packs) ruled in
    let set : a ≡ with_args ns c.args.args.now (with_rule e.world (pos p.share)) =
    ap (λ d. d.world) c.in_ok-apply.ensures.effect ∙ ap (λ s. (cmd_effect s (shown c.set_rule.new.self).world).world) c.in_ok-set.ensures
    ∙ ap (λ ts. (effect (set_value (io_of ns) (at_key (codes "args")) (list_of ts)) (shown c.set_rule.new.self).world).world) c.in_ok-ints.ensures.ints
    ∙ ap (λ (s : Shown). with_args ns c.args.args.now s.world) ruled in
    let f = c.in_ok-start.start in
    let name = c.in_ok-start.ensures ∙ ap (full_name ns) (c.as_str.ensures.value ∙ c.in_ok-name.ensures.ok) in
    let world = c.in_ok-chained.ensures.world ∙ ap (λ vs. (chain_from (functions_of (map pack_view vs)) f BMIN a).world) packs in
    let used = c.in_ok-chained.ensures.used ∙ ap (λ vs. BMIN - (chain_from (functions_of (map pack_view vs)) f BMIN a).left) packs in
    let cut = c.in_ok-chained.ensures.cut ∙ ap (λ vs. (chain_from (functions_of (map pack_view vs)) f BMIN a).cut) packs in
    called ps ws e.world _ c.args.who p c.count.new.self f c.args.self.now.ticks _ _ c.args.self.now.named g c.args.export c.args.args.now a name set
    (world, used, cut) (c.count.ensures.used, c.count.ensures.cut, c.count.ensures.share)

pub invariant_of-self-2 : goal.invariant_of-self-2
invariant_of-self-2 c =
    let old = c.args.self.now in
    let ps = old.programs.items in
    let p = c.in-Some.program.now in
    let g : slice_get ps c.args.who ≡ Some p = slice_get_read ps (length ps) c.args.who p refl c.requires.place c.in-Some.ensures.value in
    let packs : (shown c.chain.new.self).packs ≡ (shown old.engine).packs = c.chain.ensures.packs ∙ ap (λ (s : Shown). s.packs) c.apply.ensures.others ∙ ap (λ (s : Shown). s.packs) c.set_rule.ensures.rule in
    let same = length_set ps c.args.who c.count.new.self in
    record {
      some = omega (arith, same, old.some);
      few = omega (arith, same, old.few);
      named = named_kept ps (shown old.engine).packs _ c.args.who p c.count.new.self g c.count.ensures.names packs old.named;
      apart = subst MayLiveTogether (sym packs) old.apart;
    }
