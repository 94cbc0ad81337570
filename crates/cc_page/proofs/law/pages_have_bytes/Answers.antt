use Rattle.cc_page.proofs.ShownLemmas.{pages_shown, pages_many, pages_grown}
use Rattle.cc_page.proofs.law.pages_have_bytes.Goals as goal

pub returns : goal.returns
returns c = record { shown = pages_shown; many = pages_many; grown = pages_grown }
