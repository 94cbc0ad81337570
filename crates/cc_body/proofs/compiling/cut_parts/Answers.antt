use Rattle.wm_place.specs.Visit.{function_visits}
use Rattle.cc_body.specs.steps.PartBuilder.{reached}
use Rattle.cc_body.proofs.PartBuilderLemmas.{parts_made}
use Rattle.cc_body.proofs.compiling.cut_parts.Goals as goal

pub returns : goal.returns
returns c = parts_made reached (λ s. s.lean) (function_visits c.args.m.now c.args.lean.body.func) _ c.walk.new.visitor c.in_ok-walk.ensures
