use Rattle.std.proofs.Common.{◌∙◌, ◌++◌, ◌∷◌, [], ap}
use Rattle.cc_sched.proofs.ChargingLemmas.{one_added}
use Rattle.cc_sched.proofs.charging.push_uncharged.Goals as goal

pub returns-clause-added : goal.returns-clause-added
returns-clause-added c =
    one_added c.args.charged.now.items c.push.new.self.items c.into_items-items.result.items c.append.new.self.items c.args.item c.in_ok-append.ensures.items
    (c.into_items-items.ensures ∙ c.in_ok-block.ensures) (c.in_ok-push.ensures.items ∙ ap (λ t. t ++ (c.args.item ∷ [])) c.new-alone.ensures.items)
