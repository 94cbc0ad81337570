use Rattle.std.proofs.Common.{ap, sym, ◌∙◌, ◌-◌, List, take, drop, length, arith}
use Rattle.wm_ast.specs.Configuration.{items_of, after_values}
use Rattle.wm_ast.specs.Code.{Code, nil, cons}
use Rattle.wm_ast.specs.declared.instruction.Instr.{Instr}
use Rattle.wm_ast.specs.View.{op_of, code_of}
use Rattle.wm_reduce.specs.TermView.{store_of}
use Rattle.wm_reduce.proofs.StepLaws.{ok, next_comes, first_of, none_left}
use Rattle.wm_reduce.proofs.calls.Calls.next.Goals as goal

pub returns-in-empty : goal.returns-in-empty
returns-in-empty c =
    ok c.leave.result _ _ (λ o h. next_comes c.args.m.now (store_of c.args.storage.now) c.args.self o _ c.skip_constants.new.values nil c.requires
    (ap (λ (is : Code). after_values c.skip_constants.new.values (items_of is)) (sym (none_left c.in_ok-code.code.now c.in-empty.len_below)) ∙ c.in_ok-code.ensures.same)
    (h c.args.m.now (store_of c.args.storage.now))) c.leave.ensures

pub returns-in-len1-up : goal.returns-in-len1-up
returns-in-len1-up c =
    ok c.dispatch.result _ _ (λ o h. next_comes c.args.m.now (store_of c.args.storage.now) c.args.self o _ c.skip_constants.new.values (cons (op_of c.instr-item.result) (code_of (take (length c.in_ok-code.code.now - 1) (drop 1 c.in_ok-code.code.now)))) c.requires
    (ap (λ (is : List Instr). after_values c.skip_constants.new.values (items_of (code_of is))) (sym (first_of c.in_ok-code.code.now c.instr-item.result (let n = c.in-len1-up.len_at_least in omega arith) c.instr-item.is)) ∙ c.in_ok-code.ensures.same)
    h) c.dispatch.ensures
