use Rattle.mc_inspect.proofs.AtCuts.{cut_answer}
use Rattle.mc_inspect.proofs.cuts.at_cut.Goals as goal

pub returns : goal.returns
returns c = cut_answer c.args.m.now c.args.reading.now c.args.func c.args.index c.requires c.whole.result c.whole.ensures
