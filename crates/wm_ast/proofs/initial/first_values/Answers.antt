use Rattle.std.proofs.Common.{◌∙◌, ◌++◌, ap, sym, List, filter_map}
use Rattle.std.proofs.lemmas.List.{drop_all, append-nil as whole}
use Rattle.mc_nbt.specs.declared.value.Value.{Value}
use Rattle.wm_ast.specs.declared.module.Global.{Global}
use Rattle.wm_ast.specs.Instance.{first_value}
use Rattle.wm_ast.proofs.InitialLaws.{global_more}
use Rattle.wm_ast.proofs.initial.first_values.Goals as goal

pub loop-global-init : goal.loop-global-init
loop-global-init c =
    let gs = c.as_slice-global-items.result.now in
    ap (λ (l : List Value). l ++ filter_map first_value gs) c.new-values.ensures.items
    ∙ ap (λ (l : List Global). filter_map first_value l) c.as_slice-global-items.ensures

pub loop-global-preserved : goal.loop-global-preserved
loop-global-preserved c =
    global_more c.loop-global.values.items c.add_value.new.values.items (filter_map first_value c.args.m.now.globals) c.as_slice-global-items.result.now c.loop-global.global-index
    c.global-item.result c.constant_value.result c.loop-global-test.true c.global-item.is (c.constant_value.ensures ∙ ap (λ is. first_value (record c.global-item.result { init = is })) c.as_slice.ensures) c.in_ok-add_value.ensures c.loop-global.invariant

pub returns : goal.returns
returns c =
    sym (whole c.loop-global.values.items)
    ∙ ap (λ (l : List Global). c.loop-global.values.items ++ filter_map first_value l) (sym (drop_all c.loop-global.global-index c.as_slice-global-items.result.now c.loop-global-test.false))
    ∙ c.loop-global.invariant
