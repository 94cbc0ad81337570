use Rattle.cc_tails.proofs.Laws.{ends_named}
use Rattle.cc_tails.proofs.law.ends_are_named.Goals as goal

pub returns : goal.returns
returns c = ends_named
