use Rattle.cc_cut.proofs.StopLemmas.{labelled_is}
use Rattle.cc_cut.proofs.begin.labelled.Goals as goal

pub returns : goal.returns
returns c = labelled_is c.args.levels.now c.args.label c.in_ok-outer.outer c.index-levels-outer.result c.in_ok-outer.ensures.0 c.in_ok-outer.ensures.1 c.index-levels-outer.is
