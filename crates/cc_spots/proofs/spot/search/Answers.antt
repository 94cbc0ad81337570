use Rattle.std.proofs.Common.{refl}
use Rattle.wm_place.specs.Visit.{function_visits}
use Rattle.cc_spots.proofs.SearchLaws.{all_found}
use Rattle.cc_spots.proofs.spot.search.Goals as goal

pub returns : goal.returns
returns c =
    all_found (λ s. s.module.now) (λ s. s.locals.now) (λ s. s.size) (λ s. s.spent) (λ s. s.left) (λ s. s.found) c.args.m.now c.args.locals.now c.args.size
    (function_visits c.args.m.now c.args.func) _ c.walk.new.visitor c.args.index c.in_ok-walk.ensures c.module.ensures.same refl refl refl refl refl
