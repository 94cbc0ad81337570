use Rattle.cc_page.proofs.Scores.{addresses_split, parts_by_scores, pairs_by_scores}
use Rattle.cc_page.proofs.law.scores_split_words.Goals as goal

pub returns : goal.returns
returns c = record { parts = parts_by_scores; pairs = pairs_by_scores; address = addresses_split }
