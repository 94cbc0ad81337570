use Rattle.cc_passes.proofs.Laws.{lean_avoids, lean_even, lean_fits, lean_short}
use Rattle.cc_passes.proofs.law.lean_items_keep_their_form.Goals as goal

pub returns-clause-fit : goal.returns-clause-fit
returns-clause-fit c = lean_fits

pub returns-clause-short : goal.returns-clause-short
returns-clause-short c = lean_short

pub returns-clause-avoiding : goal.returns-clause-avoiding
returns-clause-avoiding c = lean_avoids

pub returns-clause-even : goal.returns-clause-even
returns-clause-even c = lean_even
