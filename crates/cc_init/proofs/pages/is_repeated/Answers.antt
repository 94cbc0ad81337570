use Rattle.cc_init.proofs.PageLemmas.{repeated_is}
use Rattle.cc_init.proofs.pages.is_repeated.Goals as goal

pub returns-in-Some : goal.returns-in-Some
returns-in-Some c =
    repeated_is c.args.bytes.now c.args.page c.in-Some.before c.eq.result c.page_bytes.result.now c.page_bytes-in-Some.result.now c.in-Some.ensures c.page_bytes.ensures c.page_bytes-in-Some.ensures c.eq.ensures
