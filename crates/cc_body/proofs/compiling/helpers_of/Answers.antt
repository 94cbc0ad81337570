use Rattle.std.proofs.Common.{◌≡◌, ◌+◌, ◌∷◌, drop, arith}
use Rattle.std.proofs.lemmas.Grind.{common_steps}
use Rattle.cc_body.proofs.CompileLemmas.{helpers_more}
use Rattle.cc_body.proofs.compiling.helpers_of.Goals as goal

pub loop-part-preserved : goal.loop-part-preserved
loop-part-preserved c =
    let parts = c.args.parts.now in
    let i = c.loop-part.part-index in
    let here : drop i parts ≡ c.part-item.result ∷ drop (i + 1) parts = grind (arith, common_steps, c.part-item.is, c.loop-part-test.true) in
    helpers_more c.args.ns.now c.part-item.result _ _ _ _ _ here c.in_ok-add_helpers.ensures c.loop-part.invariant
