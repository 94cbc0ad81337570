use Rattle.cc_passes.proofs.Laws.{lean_exit, lean_helpers, lean_named, lean_weigh}
use Rattle.cc_passes.proofs.law.lean_items_weigh_no_more.Goals as goal

pub returns-clause-most : goal.returns-clause-most
returns-clause-most c = lean_weigh

pub returns-clause-exits : goal.returns-clause-exits
returns-clause-exits c = lean_exit

pub returns-clause-helpers : goal.returns-clause-helpers
returns-clause-helpers c = lean_helpers

pub returns-clause-named : goal.returns-clause-named
returns-clause-named c = lean_named
