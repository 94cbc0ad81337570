use Rattle.std.proofs.Common.{◌≡◌, ◌+◌, ◌∷◌, drop, arith}
use Rattle.std.proofs.lemmas.Grind.{common_steps}
use Rattle.cc_line.proofs.HelperLemmas.{helpers_go_on}
use Rattle.cc_line.proofs.helper.+helpers.Goals as goal

pub add_helpers-loop-item-preserved : goal.add_helpers-loop-item-preserved
add_helpers-loop-item-preserved c c' =
    let items = c'.args.items.now in
    let i = c'.loop-item.item-index in
    let here : drop i items ≡ c'.item-item.result ∷ drop (i + 1) items = grind (arith, common_steps, c'.item-item.is) in
    helpers_go_on _ _ _ _ _ _ _ here c'.in_ok-add_helper.ensures c'.loop-item.invariant
