use Rattle.cc_page.proofs.OfBytes.{bytes_make_pages}
use Rattle.cc_page.proofs.law.bytes_make_pages.Goals as goal

pub returns : goal.returns
returns c = bytes_make_pages
