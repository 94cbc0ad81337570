use Rattle.cc_cut.proofs.RuleLemmas.{cuts_have_rules}
use Rattle.cc_cut.proofs.law.cuts_have_rules.Goals as goal

pub returns : goal.returns
returns c = cuts_have_rules
