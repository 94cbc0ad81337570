use Rattle.cc_line.proofs.RunningLemmas.{below_is, next_is, following_is, starting_is, templates_are, frameless, begun}
use Rattle.cc_line.proofs.law.running_packs_keep_their_job.Goals as goal

pub returns-clause-below : goal.returns-clause-below
returns-clause-below c = below_is

pub returns-clause-next : goal.returns-clause-next
returns-clause-next c = next_is

pub returns-clause-following : goal.returns-clause-following
returns-clause-following c = following_is

pub returns-clause-starting : goal.returns-clause-starting
returns-clause-starting c = starting_is

pub returns-clause-templates : goal.returns-clause-templates
returns-clause-templates c = templates_are

pub returns-clause-no_frame : goal.returns-clause-no_frame
returns-clause-no_frame c = frameless

pub returns-clause-begins : goal.returns-clause-begins
returns-clause-begins c = begun
