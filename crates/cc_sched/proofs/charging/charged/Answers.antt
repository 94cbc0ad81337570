use Rattle.std.proofs.Common.{◌≡◌, ◌∙◌, sym, ap, subst, map-id}
use Rattle.std.specs.Prelude.{IfOk}
use Rattle.std.proofs.lemmas.Iterator.Adapters.{YieldsList-from_vec}
use Rattle.std.proofs.lemmas.Iterator.Consumers.{YieldsList-end}
use Rattle.cc_line.specs.BlockView.{block_items}
use Rattle.cc_sched.specs.Charge.{charge, round_weight}
use Rattle.cc_sched.proofs.ChargingLemmas.{all_put, none_put, put_on}
use Rattle.cc_sched.proofs.charging.charged.Goals as goal

pub loop-item-init : goal.loop-item-init
loop-item-init c = none_put _ c.new-charged.ensures.items

pub loop-item-preserved : goal.loop-item-preserved
loop-item-preserved c = put_on _ _ _ _ _ _ c.loop-item.invariant c.in_ok-owed.ensures.counted c.in_ok-owed.ensures.added

pub returns : goal.returns
returns c =
    let given = c.into_iter-item-iterator.ensures.into_iter_gives in
    let t = YieldsList-end (YieldsList-from_vec {s = c.into_iter-item-iterator.result} c.into_items-item-items.result.items given.0 (given.1 ∙ c.into_items-item-items.result.ok.0)) c.loop-item.yielded c.loop-item.item-iterator c.loop-item.yielded_by c.next.result c.next.new.self c.in-None.is c.next.ensures.steps in
    subst (λ y. IfOk c.of.result (λ b. block_items b ≡ y))
    (all_put _ _ _ _ _ _ _ c.loop-item.invariant (sym (map-id c.loop-item.yielded) ∙ t.0) c.in_ok-sum.ensures c.in_ok-push_steps.ensures c.charge_step.ensures ∙ ap (charge round_weight) c.into_items-item-items.ensures)
    c.of.ensures
