use Rattle.std.proofs.Common.{◌≡◌, ◌+◌, ◌-◌, arith}
use Rattle.cc_pieces.specs.Restoring.{first_restore}
use Rattle.mc_inspect.proofs.Looking.{body_tells, mapped}
use Rattle.mc_inspect.proofs.look.before_number.Goals as goal

pub returns : goal.returns
returns c =
    let e : first_restore + (c.args.index - first_restore) ≡ c.args.index = omega (arith, c.requires.least) in
    mapped c.before_cut.result _ _ (λ o h. body_tells c.args.m.now c.args.reading.now c.args.func _ c.args.index o e h) c.before_cut.ensures
