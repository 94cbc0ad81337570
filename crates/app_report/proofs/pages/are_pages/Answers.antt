use Rattle.std.proofs.Common.{◌∙◌}
use Rattle.app_report.proofs.PagesLemmas.{pages_all}
use Rattle.app_report.proofs.pages.are_pages.Goals as goal

pub returns : goal.returns
returns c = c.all_are_pages.ensures ∙ pages_all c.args.trees.now
