use Rattle.std.proofs.Common.{◌≡◌, ◌≤◌, ◌<◌, ◌+◌, List, ◌++◌, length, drop, ap, ◌∙◌, arith}
use Rattle.wm_ast.specs.declared.module.Module.{Module}
use Rattle.cc_cut.specs.declared.table.Cut.{Cut}
use Rattle.cc_cut.specs.Cuts.{cuts_by}
use Rattle.cc_cut.proofs.MakingLemmas.{few_functions, next_function}
use Rattle.cc_cut.proofs.making.cut_module.Goals as goal

pub overflow_cast-func : goal.overflow_cast-func
overflow_cast-func c =
    let few : length c.args.m.now.funcs ≤ 8192 = few_functions c.args.m.now c.module.ensures.typed.profile in
    let size : length c.module.result.now.funcs ≡ length c.args.m.now.funcs = ap (λ (m : Module). length m.funcs) c.module.ensures.same in
    let before : c.loop-func.func < c.len-func-end.result = c.loop-func-test.true in
    let end : c.len-func-end.result ≡ length c.module.result.now.funcs = c.len-func-end.ensures in
    omega arith

pub loop-func-preserved : goal.loop-func-preserved
loop-func-preserved c =
    let size : length c.module.result.now.funcs ≡ length c.args.m.now.funcs = ap (λ (m : Module). length m.funcs) c.module.ensures.same in
    let before : c.loop-func.func < c.len-func-end.result = c.loop-func-test.true in
    let end : c.len-func-end.result ≡ length c.module.result.now.funcs = c.len-func-end.ensures in
    ap (λ (cs : List Cut). cs ++ cuts_by c.args.m.now (c.loop-func.func + 1) (drop (c.loop-func.func + 1) c.args.m.now.funcs)) c.in_ok-append.ensures.items
    ∙ next_function c.args.m.now c.loop-func.func c.loop-func.cuts.items c.in_ok-own.own.items _ (omega arith) c.in_ok-own.ensures c.loop-func.invariant
