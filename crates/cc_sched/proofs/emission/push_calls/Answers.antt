use Rattle.std.proofs.Common.{◌+◌, ◌∷◌, ◌++◌, [], ◌∙◌, ap, drop, arith}
use Rattle.std.proofs.lemmas.Grind.{common_steps}
use Rattle.cc_line.specs.BlockView.{functions_view}
use Rattle.cc_sched.proofs.EmissionLemmas.{calls_go_on}
use Rattle.cc_sched.proofs.emission.push_calls.Goals as goal

pub loop-number-preserved : goal.loop-number-preserved
loop-number-preserved c =
    let k = c.loop-number.number in
    let exports = c.args.exports.now in
    calls_go_on _ _ _ _ _ (drop k exports) (drop (k + 1) exports) _ (grind (arith, common_steps, c.loop-number-test.true)) (c.in_ok-push.ensures ∙ ap (λ h. functions_view c.loop-number.functions ++ (h ∷ [])) c.in_ok-call_function.ensures) c.loop-number.invariant
