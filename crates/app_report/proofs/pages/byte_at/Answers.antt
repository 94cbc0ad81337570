use Rattle.app_report.proofs.PagesLemmas.{byte_here, has_word}
use Rattle.app_report.proofs.pages.byte_at.Goals as goal

pub word_at-requires : goal.word_at-requires
word_at-requires c = has_word c.args.page.now c.in-List.words c.args.i c.requires.page c.in-List.is c.requires.within

pub returns : goal.returns
returns c = λ bytes h. byte_here c.args.page.now c.in-List.words bytes c.args.i c.word_at.result c.byte_of.result c.in-List.is h record { sfits = c.word_at.type_inv } c.word_at.ensures c.byte_of.ensures
