use Rattle.std.proofs.Common.{arith}
use Rattle.mc_inspect.proofs.TurnLemmas.{quotient_fits, quotient_is, rest_is}
use Rattle.mc_inspect.proofs.divisions.divided.Goals as goal

pub overflow_add-result : goal.overflow_add-result
overflow_add-result c =
    let t = c.args.t in
    omega (arith, quotient_fits t.dividend t.remainder t.divisor c.args.left c.requires.few c.requires.below (omega arith) (omega arith) _ _ _ c.from-dividend.ensures c.from.ensures c.from-divisor.ensures)

pub overflow_cast-result : goal.overflow_cast-result
overflow_cast-result c =
    let t = c.args.t in
    omega (arith, quotient_fits t.dividend t.remainder t.divisor c.args.left c.requires.few c.requires.below (omega arith) (omega arith) _ _ _ c.from-dividend.ensures c.from.ensures c.from-divisor.ensures)

pub returns-clause-quotient : goal.returns-clause-quotient
returns-clause-quotient c =
    let t = c.args.t in
    quotient_is t.dividend t.remainder t.divisor c.args.left c.requires.few c.requires.below (omega arith) (omega arith) _ _ _ c.from-dividend.ensures c.from.ensures c.from-divisor.ensures

pub returns-clause-rest : goal.returns-clause-rest
returns-clause-rest c =
    let t = c.args.t in
    rest_is t.dividend t.remainder t.divisor c.args.left c.requires.few c.requires.below (omega arith) (omega arith) _ _ _ c.from-dividend.ensures c.from.ensures c.from-divisor.ensures
