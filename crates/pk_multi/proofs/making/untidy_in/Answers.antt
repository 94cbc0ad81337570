use Rattle.std.proofs.Common.{◌≡◌, None, subst}
use Rattle.pk_multi.specs.Making.{IsUntidyOf}
use Rattle.pk_multi.proofs.MakingLemmas.{tidy_next}
use Rattle.pk_multi.proofs.making.untidy_in.Goals as goal

pub loop-at-preserved : goal.loop-at-preserved
loop-at-preserved c =
    let none : c.in_ok-untidy.field-0 ≡ None = c.in_default.is in
    let here : IsUntidyOf c.args.names.now.ns c.args.pack.now c.loop-at.at None = subst (IsUntidyOf c.args.names.now.ns c.args.pack.now c.loop-at.at) none c.in_ok-untidy.ensures in
    tidy_next c.args.names.now.ns c.args.pack.now c.loop-at.at here c.loop-at.invariant
