use Rattle.std.proofs.Common.{◌≡◌, ◌+◌, ◌∷◌, drop, ap, map, arith}
use Rattle.std.proofs.lemmas.Grind.{common_steps}
use Rattle.mc_cmd.specs.View.{sub_view}
use Rattle.mc_cmd.proofs.SpellingLemmas.{subs_go_on}
use Rattle.mc_cmd.proofs.spelling.print_subs.Goals as goal

pub loop-sub-preserved : goal.loop-sub-preserved
loop-sub-preserved c =
    let subs = c.args.subs.now in
    let i = c.loop-sub.sub-index in
    let here : drop i subs ≡ c.sub-item.result ∷ drop (i + 1) subs = grind (arith, common_steps, c.sub-item.is) in
    subs_go_on _ _ _ _ _ _ _ (ap (map sub_view) here) c.in_ok-print_sub.ensures c.loop-sub.invariant
