use Rattle.mc_cmd.proofs.TextLemmas.{strip_is}
use Rattle.mc_cmd.proofs.word.strip_front.Goals as goal

pub returns : goal.returns
returns c = strip_is (λ r. r.now) c.args.front.now c.args.t.now c.strip_prefix.result c.strip_prefix.ensures.cases
