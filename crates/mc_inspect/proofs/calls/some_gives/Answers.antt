use Rattle.std.proofs.Common.{◌≤◌, length, arith}
use Rattle.mc_inspect.proofs.Giving.{given_by_some, gives_no_more}
use Rattle.mc_inspect.proofs.calls.some_gives.Goals as goal

pub loop-func-preserved : goal.loop-func-preserved
loop-func-preserved c =
    gives_no_more c.args.m.now c.args.results.now c.loop-func.func c.loop-func.invariant
    (λ g. let yes = c.gives.ensures.1 g in let no = c.if-gives.false in absurd cc)

pub returns : goal.returns
returns c =
    let all : length c.args.m.now.funcs ≤ c.loop-func.func = omega arith in
    given_by_some c.args.m.now c.args.results.now c.loop-func.func all c.loop-func.invariant c.is_empty.result c.is_empty.ensures
