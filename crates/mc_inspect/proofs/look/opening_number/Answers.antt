use Rattle.std.proofs.Common.{◌≡◌, ◌+◌, ◌-◌, arith}
use Rattle.cc_call.specs.Frames.{first_opening}
use Rattle.mc_inspect.proofs.Looking.{mapped, shared_tells}
use Rattle.mc_inspect.proofs.look.opening_number.Goals as goal

pub returns : goal.returns
returns c =
    let e : first_opening + (c.args.index - first_opening) ≡ c.args.index = omega (arith, c.requires.least) in
    mapped c.opening.result _ _ (λ o h. shared_tells c.args.m.now c.args.reading.now _ c.args.index o e h) c.opening.ensures
