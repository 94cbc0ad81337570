use Rattle.cc_told.proofs.Callers.{callers_told, callers_have_names}
use Rattle.cc_told.proofs.Cuts.{indices_tell_cuts}
use Rattle.cc_told.proofs.law.callers_are_told.Goals as goal

pub returns : goal.returns
returns c = record { cuts = indices_tell_cuts; callers = callers_told; names = callers_have_names }
