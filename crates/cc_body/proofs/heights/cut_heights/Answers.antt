use Rattle.std.proofs.Common.{refl}
use Rattle.wm_place.specs.Visit.{function_visits}
use Rattle.cc_body.proofs.HeightLemmas.{heights_found}
use Rattle.cc_body.proofs.heights.cut_heights.Goals as goal

pub returns : goal.returns
returns c = heights_found (λ s. s.locals) (λ s. s.spent) (λ s. s.heights.items) c.args.locals.now (function_visits c.args.m.now c.args.func) _ c.walk.new.visitor c.in_ok-walk.ensures c.in_ok-own.ensures refl c.new.ensures.items
