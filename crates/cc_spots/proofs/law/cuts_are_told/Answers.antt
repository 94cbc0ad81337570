use Rattle.cc_spots.proofs.CutLaws.{cuts_are_told}
use Rattle.cc_spots.proofs.law.cuts_are_told.Goals as goal

pub returns : goal.returns
returns c = cuts_are_told
