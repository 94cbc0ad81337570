use Rattle.cc_call.proofs.Short.{base_short, depth_short, done_acts_short, fetch_acts_short, making_short, opening_short}
use Rattle.cc_call.proofs.Short.{pass_short, push_short, restore_short, return_short}
use Rattle.cc_call.proofs.law.items_are_short.Goals as goal

pub returns-clause-depth : goal.returns-clause-depth
returns-clause-depth c = depth_short

pub returns-clause-push : goal.returns-clause-push
returns-clause-push c = push_short

pub returns-clause-pass : goal.returns-clause-pass
returns-clause-pass c = pass_short

pub returns-clause-opening : goal.returns-clause-opening
returns-clause-opening c = opening_short

pub returns-clause-making : goal.returns-clause-making
returns-clause-making c = making_short

pub returns-clause-fetch : goal.returns-clause-fetch
returns-clause-fetch c = fetch_acts_short

pub returns-clause-hand : goal.returns-clause-hand
returns-clause-hand c = return_short

pub returns-clause-restore : goal.returns-clause-restore
returns-clause-restore c = restore_short

pub returns-clause-base : goal.returns-clause-base
returns-clause-base c = base_short

pub returns-clause-done : goal.returns-clause-done
returns-clause-done c = done_acts_short
