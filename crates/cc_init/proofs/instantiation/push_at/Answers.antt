use Rattle.cc_init.proofs.GlobalLemmas.{nothing_at}
use Rattle.cc_init.proofs.instantiation.push_at.Goals as goal

pub returns-in-None : goal.returns-in-None
returns-in-None c = nothing_at _ c.args.global c.args.values.now c.in-None.ensures.lookup.3
