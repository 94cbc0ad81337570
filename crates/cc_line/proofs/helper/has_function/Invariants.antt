use Rattle.std.proofs.Common.{◌≡◌, drop}
use Rattle.cc_line.specs.BlockView.{functions_view}
use Rattle.cc_line.specs.Helpers.{has_helper}
use Rattle.cc_line.proofs.helper.has_function.Given as goal

abbrev pub invariant-loop-function : goal.invariant-loop-function
invariant-loop-function l = has_helper l.name (functions_view (drop l.function-index l.functions)) ≡ has_helper l.name (functions_view l.functions)
