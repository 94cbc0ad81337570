use Rattle.std.proofs.Common.{◌++◌, ◌/◌, List, ℕ, sym, ◌∙◌, subst}
use Rattle.wm_gen.specs.Shortest.{sevens}
use Rattle.wm_gen.proofs.NumberLaws.{OnWay, step, last_byte}
use Rattle.wm_gen.proofs.number.push_sevens.Goals as goal

pub loop-rest-preserved : goal.loop-rest-preserved
loop-rest-preserved c =
    let whole : List ℕ = c.args.bytes.now.items ++ sevens c.args.last 9 c.args.n in
    subst (λ (l : List ℕ). OnWay c.args.last whole l (c.loop-rest.rest / 128)) (sym c.in_ok-push.ensures.items)
    (step c.args.last whole c.loop-rest.bytes.items c.loop-rest.rest c.requires.some c.loop-rest-test.true c.loop-rest.invariant)

pub returns : goal.returns
returns c =
    c.in_ok-push-2.ensures.items
    ∙ last_byte c.args.last (c.args.bytes.now.items ++ sevens c.args.last 9 c.args.n) c.loop-rest.bytes.items c.loop-rest.rest c.loop-rest-test.false c.loop-rest.invariant
