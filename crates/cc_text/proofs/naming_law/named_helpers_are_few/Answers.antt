use Rattle.cc_text.proofs.NamedLemmas.{all_within, within_behind, within_front}
use Rattle.cc_text.proofs.OnceLemmas.{helpers_are_one, once_few}
use Rattle.cc_text.proofs.naming_law.named_helpers_are_few.Goals as goal

pub returns-clause-one : goal.returns-clause-one
returns-clause-one c = helpers_are_one

pub returns-clause-few : goal.returns-clause-few
returns-clause-few c = once_few

pub returns-clause-front : goal.returns-clause-front
returns-clause-front c = within_front

pub returns-clause-back : goal.returns-clause-back
returns-clause-back c p q gs hs u a b = within_behind p q gs hs hs u a b (all_within hs)
