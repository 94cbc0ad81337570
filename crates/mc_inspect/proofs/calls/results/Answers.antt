use Rattle.std.proofs.Common.{subst, sym}
use Rattle.std.specs.Prelude.{MatchOption}
use Rattle.mc_inspect.specs.steps.Found.{one_or_none}
use Rattle.mc_inspect.specs.steps.Ways.{AreHandedOver, NoneHandedOver}
use Rattle.mc_inspect.proofs.Ended.{one_not_handed}
use Rattle.mc_inspect.proofs.calls.results.Goals as goal

pub returns-in_err-value_of_scores-in-len1 : goal.returns-in_err-value_of_scores-in-len1
returns-in_err-value_of_scores-in-len1 c p scores =
    let types = c.args.types.now in
    subst (λ o. MatchOption o (NoneHandedOver types p) (λ u. AreHandedOver types (one_or_none u) p)) (sym c.from_residual.ensures)
    (one_not_handed types c.in-len1.len_at_least c.in-len1.len_below _ p (c.in_err-value_of_scores-in-len1.ensures p scores.r scores.q))
