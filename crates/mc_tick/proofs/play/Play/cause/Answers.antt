use Rattle.std.proofs.Common.{◌≡◌, ◌∙◌, ap, length, map, refl, Some, sym}
use Rattle.std.specs.Prelude.{pos, slice_get}
use Rattle.std.proofs.lemmas.Option.{slice_get_read}
use Rattle.mc_nbt.specs.Value.{kind_of}
use Rattle.mc_layout.specs.State.{state_in}
use Rattle.mc_tick.proofs.PlayLemmas.{export_found, is_number, is_other_number, of_kinds, state_of_play}
use Rattle.mc_tick.proofs.play.Play.cause.Goals as goal

pub returns-then-eq : goal.returns-then-eq
returns-then-eq c =
    let play = c.args.self.now in
    let e = c.in-Some.export.now in
    let xs = c.as_slice.result.now in
    let there : Some e ≡ slice_get c.index.result.now.exports.items c.args.export =
    sym (ap (λ ys. slice_get ys c.args.export) (sym c.as_slice.ensures.value) ∙ slice_get_read xs (length xs) c.args.export e refl c.in-Some.ensures.lookup.3.0 c.in-Some.ensures.lookup.1) in
    let found = export_found c.index.result.now _ c.args.export (Some e) c.index.ensures there in
    let kinds : map kind_of c.args.args.now ≡ e.params.items = c.are_of_kinds.ensures.0 c.if-not-are_of_kinds.false ∙ c.as_slice-2.ensures.value in
    let four : c.state.result ≡ Some (pos 4) = is_number c.eq.result _ _ c.eq.ensures c.if-eq.true in
    (of_kinds _ e _ found kinds, sym (c.state.ensures ∙ ap (state_in play.names.ns) c.world.ensures ∙ state_of_play play) ∙ four)

pub returns-else-eq : goal.returns-else-eq
returns-else-eq c =
    let play = c.args.self.now in
    let e = c.in-Some.export.now in
    let xs = c.as_slice.result.now in
    let there : Some e ≡ slice_get c.index.result.now.exports.items c.args.export =
    sym (ap (λ ys. slice_get ys c.args.export) (sym c.as_slice.ensures.value) ∙ slice_get_read xs (length xs) c.args.export e refl c.in-Some.ensures.lookup.3.0 c.in-Some.ensures.lookup.1) in
    let found = export_found c.index.result.now _ c.args.export (Some e) c.index.ensures there in
    let kinds : map kind_of c.args.args.now ≡ e.params.items = c.are_of_kinds.ensures.0 c.if-not-are_of_kinds.false ∙ c.as_slice-2.ensures.value in
    (of_kinds _ e _ found kinds, λ dead. is_other_number c.eq.result _ _ c.eq.ensures c.if-eq.false (c.state.ensures ∙ ap (state_in play.names.ns) c.world.ensures ∙ state_of_play play ∙ dead))
