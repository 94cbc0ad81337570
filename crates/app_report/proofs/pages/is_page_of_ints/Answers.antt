use Rattle.app_report.proofs.PagesLemmas.{page_of_ints}
use Rattle.app_report.proofs.pages.is_page_of_ints.Goals as goal

pub returns : goal.returns
returns c = page_of_ints c.args.ints.now
