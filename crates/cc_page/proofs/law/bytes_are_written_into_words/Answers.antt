use Rattle.cc_page.proofs.WriteLemmas.{words_written, pairs_written}
use Rattle.cc_page.proofs.law.bytes_are_written_into_words.Goals as goal

pub returns : goal.returns
returns c = record { within = words_written; across = pairs_written }
