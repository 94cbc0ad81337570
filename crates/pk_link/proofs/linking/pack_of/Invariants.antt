use Rattle.std.proofs.Common.{◌≡◌, ◌++◌, map}
use Rattle.cc_line.specs.BlockView.{functions_view}
use Rattle.pk_link.specs.Functions.{entry}
use Rattle.pk_link.proofs.linking.pack_of.Given as goal

abbrev pub invariant-loop-function : goal.invariant-loop-function
invariant-loop-function l =
    (l.pack ≡ record { index = l.fn.index; functions = map entry (functions_view l.yielded) })
    × (l.yielded ++ l.function-iterator.rest.items ≡ l.fn.functions)
