use Rattle.std.proofs.Common.{◌≡◌, ◌+◌, ◌-◌, arith}
use Rattle.cc_pieces.specs.Placing.{first_pair_placer}
use Rattle.mc_inspect.proofs.Looking.{mapped, shared_tells}
use Rattle.mc_inspect.proofs.look.pair_number.Goals as goal

pub returns : goal.returns
returns c =
    let e : first_pair_placer + (c.args.index - first_pair_placer) ≡ c.args.index = omega (arith, c.requires.least) in
    mapped c.placing.result _ _ (λ o h. shared_tells c.args.m.now c.args.reading.now _ c.args.index o e h) c.placing.ensures
