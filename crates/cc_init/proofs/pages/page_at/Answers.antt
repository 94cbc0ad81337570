use Rattle.std.proofs.Common.{refl}
use Rattle.cc_init.proofs.PageLemmas.{page_beyond, page_is}
use Rattle.cc_init.proofs.pages.page_at.Goals as goal

pub returns-then-page-pages : goal.returns-then-page-pages
returns-then-page-pages c = page_beyond c.args.pages c.args.page c.args.bytes.now c.if-page-pages.true

pub returns-in_ok-words_of-in-Some : goal.returns-in_ok-words_of-in-Some
returns-in_ok-words_of-in-Some c =
    page_is c.args.pages c.args.page _ c.args.bytes.now c.in-Some.bytes.now _ c.if-page-pages.false refl c.in-Some.ensures.lookup.0.2 c.in_ok-words_of-in-Some.ensures
