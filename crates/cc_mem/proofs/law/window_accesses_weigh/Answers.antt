use Rattle.cc_mem.proofs.WindowWeights.{bytes_weigh, words_weigh}
use Rattle.cc_mem.proofs.law.window_accesses_weigh.Goals as goal

pub returns : goal.returns
returns c = record { words = words_weigh; bytes = bytes_weigh }
