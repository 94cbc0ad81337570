use Rattle.std.proofs.Common.{inl, inr}
use Rattle.cc_line.specs.Key.{shared_piece}
use Rattle.mc_inspect.proofs.Looking.{other_tells_none}
use Rattle.mc_inspect.proofs.look.shared.Goals as goal

pub returns-then-index-lt-FIRST_OPENING : goal.returns-then-index-lt-FIRST_OPENING
returns-then-index-lt-FIRST_OPENING c =
    other_tells_none c.args.m.now c.args.reading.now (shared_piece c.args.index) (inl c.if-index-lt-FIRST_OPENING.true)

pub returns-else-index-le-GROWER : goal.returns-else-index-le-GROWER
returns-else-index-le-GROWER c =
    other_tells_none c.args.m.now c.args.reading.now (shared_piece c.args.index) (inr c.if-index-le-GROWER.false)
