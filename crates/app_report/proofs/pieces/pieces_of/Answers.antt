use Rattle.app_report.proofs.PiecesLemmas.{has_lines, piece_more}
use Rattle.app_report.proofs.pieces.pieces_of.Goals as goal

pub piece_of-requires-clause-stands : goal.piece_of-requires-clause-stands
piece_of-requires-clause-stands c = has_lines c.args.pack.now c.loop-at.at c.name.result.now c.name.ensures

pub loop-at-preserved : goal.loop-at-preserved
loop-at-preserved c = record {
  so_far = piece_more c.args.pack.now c.args.funcs c.loop-at.at c.name.result.now c.loop-at.pieces.items c.push_piece.new.pieces.items c.in_ok-piece.piece c.name.ensures c.in_ok-piece.ensures.piece c.in_ok-push_piece.ensures c.loop-at.invariant.so_far;
  known = c.in_ok-piece.ensures.known;
}
