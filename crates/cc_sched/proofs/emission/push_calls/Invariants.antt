use Rattle.std.proofs.Common.{◌≡◌, ◌++◌, drop}
use Rattle.cc_line.specs.BlockView.{functions_view}
use Rattle.cc_sched.specs.Functions.{call_functions}
use Rattle.cc_sched.proofs.emission.push_calls.Given as goal

abbrev pub invariant-loop-number : goal.invariant-loop-number
invariant-loop-number l = functions_view l.functions ++ call_functions l.ns l.number (drop l.number l.exports) ≡ functions_view l.initial.functions ++ call_functions l.ns 0 l.exports
