use Rattle.std.proofs.Common.{◌∙◌}
use Rattle.app_report.proofs.PagesLemmas.{words_all}
use Rattle.app_report.proofs.pages.are_ints.Goals as goal

pub returns : goal.returns
returns c = c.all_are_ints.ensures ∙ words_all c.args.trees.now
