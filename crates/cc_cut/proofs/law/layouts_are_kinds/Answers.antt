use Rattle.cc_cut.proofs.LawLemmas.{layouts_are}
use Rattle.cc_cut.proofs.law.layouts_are_kinds.Goals as goal

pub returns : goal.returns
returns c = layouts_are
