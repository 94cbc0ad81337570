use Rattle.cc_init.proofs.GlobalLemmas.{all_pushed, more_pushed}
use Rattle.cc_init.proofs.instantiation.push_globals.Goals as goal

pub loop-index-preserved : goal.loop-index-preserved
loop-index-preserved c =
    more_pushed _ _ _ c.args.values.now c.in-Some.from c.loop-index.index _ c.loop-index-test.true c.in_ok-sum.ensures c.in_ok-push_at.ensures c.loop-index.invariant

pub returns : goal.returns
returns c = all_pushed _ _ c.args.values.now c.in-Some.from c.loop-index.index c.loop-index-test.false c.loop-index.invariant
