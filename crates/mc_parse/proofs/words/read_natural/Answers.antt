use Rattle.std.proofs.Common.{ap, ◌∙◌}
use Rattle.mc_parse.specs.steps.Range.{natural_in}
use Rattle.mc_parse.proofs.RangeLemmas.{natural_by_number}
use Rattle.mc_parse.proofs.words.read_natural.Goals as goal

pub returns : goal.returns
returns c = c.natural_of.ensures ∙ ap natural_in c.in_ok-read.ensures ∙ natural_by_number c.args.w.now
