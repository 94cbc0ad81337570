use Rattle.cc_cut.proofs.LawLemmas.{cuts_are_of_pieces, places_tell, exits_are}
use Rattle.cc_cut.proofs.law.indices_tell_cuts.Goals as goal

pub returns : goal.returns
returns c = record { of_pieces = cuts_are_of_pieces; by_place = places_tell; exits = exits_are }
