use Rattle.std.proofs.Common.{refl}
use Rattle.cc_body.proofs.FrameLemmas.{most_found, places_found}
use Rattle.cc_body.proofs.frame.sized.Goals as goal

pub returns-clause-most : goal.returns-clause-most
returns-clause-most c = most_found c.args.locals.now _ _ c.walk.new.visitor c.in_ok-walk.ensures c.in_ok-locals.ensures c.in_ok-locals.ensures

pub returns-clause-places : goal.returns-clause-places
returns-clause-places c = places_found _ _ c.walk.new.visitor c.in_ok-walk.ensures refl
