use Rattle.std.proofs.Common.{◌≡◌, ◌++◌}
use Rattle.std.specs.Prelude.{option_map}
use Rattle.mc_cmd.specs.View.{pattern_view}
use Rattle.mc_parse.specs.steps.Many.{many}
use Rattle.mc_parse.specs.steps.Pieces.{piece_read, pieces_read}
use Rattle.mc_parse.proofs.pattern.read_pieces.Given as goal

abbrev pub invariant-loop-rest : goal.invariant-loop-rest
invariant-loop-rest l = option_map (λ ps. pattern_view l.parts.items ++ ps) (many piece_read l.left l.rest) ≡ pieces_read l.t

abbrev pub decreases-loop-rest : goal.decreases-loop-rest
decreases-loop-rest l = l.left
