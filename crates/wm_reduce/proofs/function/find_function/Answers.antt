use Rattle.std.proofs.Common.{arith}
use Rattle.wm_ast.specs.declared.module.ValType.TheVariants.{I32}
use Rattle.wm_reduce.proofs.FunctionLaws.{no_result, a_result, shown}
use Rattle.wm_reduce.proofs.function.find_function.Goals as goal

pub returns-in-empty : goal.returns-in-empty
returns-in-empty c =
    shown c.args.m.now c.args.index c.in_ok-func.func.now c.in_ok-ty.ty.now _ c.function_of.result c.in_ok-func.ensures.value c.in_ok-ty.ensures.value
    (no_result c.as_slice.result.now c.in_ok-ty.ty.now.results c.as_slice.ensures c.in-empty.len_below)
    c.function_of.ensures.takes c.function_of.ensures.gives c.function_of.ensures.locals c.function_of.ensures.body

pub returns-in-len1 : goal.returns-in-len1
returns-in-len1 c =
    shown c.args.m.now c.args.index c.in_ok-func.func.now c.in_ok-ty.ty.now _ c.function_of-in-len1.result c.in_ok-func.ensures.value c.in_ok-ty.ensures.value
    (a_result c.as_slice.result.now c.in_ok-ty.ty.now.results I32 c.as_slice.ensures c.in-len1.len_below (let h = c.in-len1.len_at_least in omega arith))
    c.function_of-in-len1.ensures.takes c.function_of-in-len1.ensures.gives c.function_of-in-len1.ensures.locals c.function_of-in-len1.ensures.body
