use Rattle.std.proofs.Common.{◌≡◌, ◌∙◌, sym, ap, false, rules, map, drop, ◌∷◌, ◌+◌, arith}
use Rattle.std.specs.Prelude.{◌&&◌}
use Rattle.std.proofs.lemmas.Grind.{common_steps}
use Rattle.mc_cmd.specs.View.{sub_view}
use Rattle.mc_cmd.specs.World.{all_go_on, goes_on}
use Rattle.mc_world.specs.WorldView.{seen}
use Rattle.mc_world.proofs.world.World.all_go_on.Goals as goal

pub returns-then-not-goes_on : goal.returns-then-not-goes_on
returns-then-not-goes_on c =
    let w = seen c.args.self.now in
    let subs = c.args.subs.now in
    let i = c.loop-sub.sub-index in
    let here : drop i subs ≡ c.sub-item.result ∷ drop (i + 1) subs = grind (arith, common_steps, c.sub-item.is) in
    let stops : goes_on (sub_view c.sub-item.result) w ≡ false = search rules in
    sym (c.loop-sub.invariant ∙ ap (λ l. all_go_on (map sub_view l) w) here ∙ ap (λ b. b && all_go_on (map sub_view (drop (i + 1) subs)) w) stops)
