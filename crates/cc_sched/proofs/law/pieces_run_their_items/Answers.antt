use Rattle.cc_sched.proofs.PieceItems.{piece_avoids, piece_items_fit, piece_leads, piece_most, piece_ready, piece_short}
use Rattle.cc_sched.proofs.law.pieces_run_their_items.Goals as goal

pub returns-clause-leads : goal.returns-clause-leads
returns-clause-leads c = piece_leads

pub returns-clause-ready : goal.returns-clause-ready
returns-clause-ready c = piece_ready

pub returns-clause-most : goal.returns-clause-most
returns-clause-most c = piece_most

pub returns-clause-fits : goal.returns-clause-fits
returns-clause-fits c = piece_items_fit

pub returns-clause-avoids : goal.returns-clause-avoids
returns-clause-avoids c = piece_avoids

pub returns-clause-short : goal.returns-clause-short
returns-clause-short c = piece_short
