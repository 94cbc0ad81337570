use Rattle.std.proofs.Common.{◌<◌, arith}
use Rattle.cc_body.proofs.FrameLemmas.{all_tabled, function_there, index_low}
use Rattle.cc_body.proofs.frame.Shapes.of_module.Goals as goal

pub overflow_cast-index : goal.overflow_cast-index
overflow_cast-index c =
    let low : c.loop-index.index < 4294967296 =
    index_low c.args.m.now _ _ _ c.module-module.ensures.typed.profile c.module-module.ensures.same c.as_slice-f-items.ensures c.loop-index-test.true in
    omega arith

pub function_shape-requires : goal.function_shape-requires
function_shape-requires c = function_there c.args.m.now _ _ _ _ c.module-module.ensures.same c.as_slice-f-items.ensures c.loop-index-test.true c.f-item.is

pub returns : goal.returns
returns c = all_tabled c.args.m.now _ _ _ _ c.module-module.ensures.same c.as_slice-f-items.ensures c.loop-index-test.false c.loop-index.invariant
