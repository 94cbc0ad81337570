use Rattle.std.proofs.Common.{◌≡◌, ◌+◌, ◌-◌, ◌++◌, ◌∙◌, suc, ℕ, ap, refl, arith}
use Rattle.std.proofs.lemmas.Grind.{common_steps}
use Rattle.cc_sched.specs.Sched.{rounds_texts}
use Rattle.cc_sched.proofs.EmissionLemmas.{one_round_less}
use Rattle.cc_sched.proofs.emission.push_rounds.Goals as goal

pub loop-round-preserved : goal.loop-round-preserved
loop-round-preserved c =
    let i : ℕ = c.loop-round._round in
    let e : suc (8 - (i + 1)) ≡ 8 - i = grind (arith, common_steps, c.loop-round-test.true) in
    one_round_less _ _ _ _ c.args.ns.now (8 - (i + 1)) c.in_ok-push_round.ensures refl
    (ap (λ n. c.loop-round.lines ++ rounds_texts c.args.ns.now n) e ∙ c.loop-round.invariant)
