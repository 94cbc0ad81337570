use Rattle.mc_inspect.proofs.Placed.{its_kind}
use Rattle.mc_inspect.proofs.placing.placed_value.Goals as goal

pub returns-clause-kind : goal.returns-clause-kind
returns-clause-kind c = its_kind c.args.last c.args.scores.r c.args.scores.q c.value_of_scores.result c.value_of_scores.ensures
