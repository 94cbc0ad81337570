use Rattle.cc_tails.proofs.CutLemmas.{cut_at_is}
use Rattle.cc_tails.proofs.running.cut_at.Goals as goal

pub returns : goal.returns
returns c = cut_at_is c.args.cuts.now c.args.index c.in_ok-position.position c.get.result c.in_ok-position.ensures.0 c.in_ok-position.ensures.1 c.get.ensures.lookup
