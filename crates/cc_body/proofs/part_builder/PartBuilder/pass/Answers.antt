use Rattle.std.proofs.Common.{sym, ◌∙◌}
use Rattle.wm_place.specs.Stop.{visit_told}
use Rattle.cc_body.specs.steps.PartBuilder.{reached}
use Rattle.cc_body.proofs.PartBuilderLemmas.{passed_cut}
use Rattle.cc_body.proofs.part_builder.PartBuilder.pass.Goals as goal

pub returns-in_ok-push_own-clause-reached : goal.returns-in_ok-push_own-clause-reached
returns-in_ok-push_own-clause-reached c =
    passed_cut c.args.self.now.lean (reached c.args.self.now) (visit_told c.args.stop) _ _ _ _ (sym c.is_cut.ensures ∙ c.if-is_cut.true) c.place_cost-cost.ensures.value c.in_ok-index.ensures c.in_ok-push_restored.ensures
    c.in_ok-push_own.ensures
