use Rattle.std.proofs.Common.{◌∙◌, ap, pos, refl, rules, sym, Some}
use Rattle.mc_nbt.specs.View.{view}
use Rattle.mc_world.specs.WorldView.{seen}
use Rattle.pk_sight.proofs.RunningParts.{int_seen, way_by_end}
use Rattle.pk_sight.proofs.running.is_under_way.Goals as goal

pub returns : goal.returns
returns c p s =
    let (trap, no_trap) = c.in_ok-has_score.ensures p s in
    let (state, no_state) = c.in_ok-has_tree.ensures p s in
    let way = way_by_end c.args.names.now.ns (seen c.args.world.now) p s (trap (search rules)) (state (search rules) ∙ ap Some (int_seen (pos 1))) (λ t. view t.now) c.in_ok-end.end (c.in_ok-end.ensures.of_states p s refl) in
    (λ b. way.0 (sym c.is_some.ensures ∙ b), λ r. c.is_some.ensures ∙ way.1 r)
