use Rattle.cc_spots.proofs.SearchLaws.{most_found}
use Rattle.cc_spots.proofs.size.size_over.Goals as goal

pub returns : goal.returns
returns c = most_found c.args.locals.now _ _ c.walk.new.visitor c.max.result c.in_ok-walk.ensures c.in_ok-own.ensures c.in_ok-own.ensures c.max.ensures
