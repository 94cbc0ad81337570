-- All laws of calls.
use Rattle.cc_call.specs.Law.{CallsWork}
use Rattle.cc_call.proofs.Pushing.{frames_are_pushed}
use Rattle.cc_call.proofs.Passing.{arguments_are_passed}
use Rattle.cc_call.proofs.Opening.{frames_are_opened}
use Rattle.cc_call.proofs.Making.{frames_are_made}
use Rattle.cc_call.proofs.Fetching.{arguments_are_fetched}
use Rattle.cc_call.proofs.Handing.{results_are_handed}
use Rattle.cc_call.proofs.Restoring.{frames_are_restored}
use Rattle.cc_call.proofs.Ending.{bases_are_made, jobs_are_ended, depth_is_tested}

pub calls_work : CallsWork
calls_work = record {
  depth = depth_is_tested;
  push = frames_are_pushed;
  pass = arguments_are_passed;
  opening = frames_are_opened;
  making = frames_are_made;
  fetch = arguments_are_fetched;
  hand = results_are_handed;
  restore = frames_are_restored;
  base = bases_are_made;
  done = jobs_are_ended;
}
