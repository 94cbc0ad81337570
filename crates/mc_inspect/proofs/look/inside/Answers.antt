use Rattle.std.proofs.Common.{ap, None, subst, sym}
use Rattle.cc_line.specs.Key.{end_piece, init_piece}
use Rattle.cc_line.specs.View.{piece_view}
use Rattle.mc_inspect.specs.steps.Found.{Tells}
use Rattle.mc_inspect.proofs.Looking.{other_tells_none}
use Rattle.mc_inspect.proofs.look.inside.Goals as goal

pub returns-in-Init : goal.returns-in-Init
returns-in-Init c =
    subst (λ i. Tells c.args.m.now c.args.reading.now i None) (ap piece_view (sym c.in-Init.is)) (other_tells_none c.args.m.now c.args.reading.now (init_piece _) tt)

pub returns-in-End : goal.returns-in-End
returns-in-End c =
    subst (λ i. Tells c.args.m.now c.args.reading.now i None) (ap piece_view (sym c.in-End.is)) (other_tells_none c.args.m.now c.args.reading.now (end_piece _) tt)
