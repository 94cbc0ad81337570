use Rattle.cc_line.proofs.BlockLemmas.{constant_done, copy_done, less_done}
use Rattle.cc_line.proofs.law.blocks_make_places.Goals as goal

pub returns-clause-constant : goal.returns-clause-constant
returns-clause-constant c = constant_done

pub returns-clause-copy : goal.returns-clause-copy
returns-clause-copy c = copy_done

pub returns-clause-less : goal.returns-clause-less
returns-clause-less c = less_done
