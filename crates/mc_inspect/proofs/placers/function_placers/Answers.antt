use Rattle.std.proofs.Common.{true, false, refl}
use Rattle.mc_inspect.proofs.PlacerLemmas.{placers_found}
use Rattle.mc_inspect.proofs.placers.function_placers.Goals as goal

pub returns-then-finding : goal.returns-then-finding
returns-then-finding c =
    placers_found c.args.m.now c.module-module.result.now c.module-module.ensures.same c.args.func c.in-Some.f.now c.in-Some.ensures.value c.in-Some-get.ty.now c.in-Some-get.ensures.value
    _ c.walk.new.visitor c.in_ok-walk.ensures refl c.body_results.ensures c.args.size c.requires true c.if-finding.true

pub returns-else-finding : goal.returns-else-finding
returns-else-finding c =
    placers_found c.args.m.now c.module-module.result.now c.module-module.ensures.same c.args.func c.in-Some.f.now c.in-Some.ensures.value c.in-Some-get.ty.now c.in-Some-get.ensures.value
    _ c.walk.new.visitor c.in_ok-walk.ensures refl c.body_results.ensures c.args.size c.requires false c.if-finding.false
