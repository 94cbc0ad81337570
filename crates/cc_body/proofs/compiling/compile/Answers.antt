use Rattle.std.proofs.Common.{◌≡◌, ◌<◌, ◌+◌, ◌∷◌, drop, Some, ap, ◌∙◌, arith}
use Rattle.std.specs.Prelude.{slice_get}
use Rattle.std.proofs.lemmas.Grind.{common_steps}
use Rattle.cc_body.proofs.CompileLemmas.{parts_more}
use Rattle.cc_body.proofs.FrameLemmas.{function_there, index_low, placers_more}
use Rattle.cc_body.specs.steps.Sizing.{placers_in}
use Rattle.cc_body.proofs.compiling.compile.Goals as goal

pub overflow_cast-func : goal.overflow_cast-func
overflow_cast-func c =
    let low : c.loop-index.index < 4294967296 =
    index_low c.args.m.now _ _ _ c.module-module.ensures.typed.profile c.module-module.ensures.same c.as_slice-f-items.ensures c.loop-index-test.true in
    omega arith

pub function_parts-requires-clause-there : goal.function_parts-requires-clause-there
function_parts-requires-clause-there c = function_there c.args.m.now _ _ _ _ c.module-module.ensures.same c.as_slice-f-items.ensures c.loop-index-test.true c.f-item.is

pub loop-index-preserved : goal.loop-index-preserved
loop-index-preserved c =
    let fs = c.args.m.now.funcs in
    let i = c.loop-index.index in
    let here : drop i fs ≡ c.f-item.result ∷ drop (i + 1) fs = grind (arith, common_steps, c.f-item.is, c.loop-index-test.true) in
    let there : slice_get fs i ≡ Some c.f-item.result =
    function_there c.args.m.now _ _ _ _ c.module-module.ensures.same c.as_slice-f-items.ensures c.loop-index-test.true c.f-item.is in
    record {
      parts = parts_more c.args.m.now _ _ i _ _ _ _ _ here c.in_ok-own.ensures c.in_ok-append.ensures.items c.loop-index.invariant.parts;
      takers = grind (arith, common_steps);
      placers = placers_more c.args.m.now _ _ i _ _ _ _ _ there here (c.placers.ensures ∙ ap placers_in (c.in_ok-shapes.ensures i)) c.max-placers.ensures c.loop-index.invariant.placers;
    }
