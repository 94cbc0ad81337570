use Rattle.cc_page.proofs.ReadLemmas.{words_stand, words_read, pairs_read, nothing_beyond}
use Rattle.cc_page.proofs.law.bytes_are_parts_of_words.Goals as goal

pub returns : goal.returns
returns c = record { stand = words_stand; within = words_read; across = pairs_read; beyond = nothing_beyond }
