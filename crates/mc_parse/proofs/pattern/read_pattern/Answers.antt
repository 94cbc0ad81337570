use Rattle.std.proofs.Common.{◌∙◌}
use Rattle.mc_parse.proofs.PieceLemmas.{pattern_by_pieces}
use Rattle.mc_parse.proofs.pattern.read_pattern.Goals as goal

pub returns : goal.returns
returns c = c.in_ok-read.ensures ∙ pattern_by_pieces c.args.t.now
