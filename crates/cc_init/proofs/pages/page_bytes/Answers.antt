use Rattle.cc_init.proofs.PageLemmas.{bytes_of_page}
use Rattle.cc_init.proofs.pages.page_bytes.Goals as goal

pub returns : goal.returns
returns c = bytes_of_page c.args.bytes.now c.args.page c.min-start.result c.min-end.result c.min-start.ensures c.min-end.ensures
