use Rattle.cc_page.proofs.Stored.{words_are_selected, words_are_set}
use Rattle.cc_page.proofs.law.pages_stand_in_storages.Goals as goal

pub returns : goal.returns
returns c = record { selected = words_are_selected; set = words_are_set }
