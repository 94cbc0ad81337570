use Rattle.std.proofs.Common.{◌≡◌, ◌∙◌, FitsSigned, Some, pos, rules, arith}
use Rattle.std.specs.Int.{w64}
use Rattle.std.proofs.lemmas.Int.{to_z-of_z}
use Rattle.mc_inspect.proofs.TurnLemmas.{division_found}
use Rattle.mc_inspect.proofs.divisions.answer.Goals as goal

pub returns : goal.returns
returns c p h =
    let t = c.in_ok-turns.turns in
    let fits : FitsSigned w64 c.signed.result = search rules in
    let g : c.args.s.g ≡ Some (pos c.args.left) = c.has_left.ensures.0 c.if-not-has_left.false in
    division_found c.args.op c.args.left c.args.s p h (omega arith) g t.dividend t.remainder t.divisor _ _ (c.in_ok-turns.ensures.told p h)
    c.divided-quotient.ensures.quotient c.divided-quotient.ensures.rest _ (to_z-of_z w64 c.signed.result fits ∙ c.signed.ensures)
