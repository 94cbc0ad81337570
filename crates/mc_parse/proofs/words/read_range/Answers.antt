use Rattle.std.proofs.Common.{◌∙◌}
use Rattle.mc_parse.proofs.RangeLemmas.{range_by_ends}
use Rattle.mc_parse.proofs.words.read_range.Goals as goal

pub returns : goal.returns
returns c = c.in_ok-read.ensures ∙ range_by_ends c.args.w.now
