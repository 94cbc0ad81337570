use Rattle.cc_line.specs.View.{piece_view}
use Rattle.mc_inspect.proofs.Looking.{inside_placed, outside_placed}
use Rattle.mc_inspect.proofs.look.look.Goals as goal

pub returns-then-branch : goal.returns-then-branch
returns-then-branch c =
    outside_placed c.args.m.now c.args.reading.now (piece_view c.args.piece) _ _ c.if-branch.true c.call_seen.ensures c.in_ok-is_outside.ensures

pub returns : goal.returns
returns c =
    inside_placed c.args.m.now c.args.reading.now (piece_view c.args.piece) _ c.if-branch.false c.in_ok-is_outside.ensures c.inside.result c.inside.ensures
