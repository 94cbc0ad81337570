use Rattle.std.proofs.Common.{◌≡◌, ◌++◌}
use Rattle.cc_line.specs.BlockView.{functions_view}
use Rattle.pk_link.proofs.functions.push_functions.Given as goal

abbrev pub invariant-loop-function : goal.invariant-loop-function
invariant-loop-function l = functions_view l.functions ≡ functions_view l.initial.functions ++ functions_view l.yielded
