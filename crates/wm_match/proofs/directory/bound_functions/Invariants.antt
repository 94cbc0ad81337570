use Rattle.wm_match.proofs.DirectoryLaws.{FunctionsFrom}
use Rattle.wm_match.proofs.directory.bound_functions.Given as goal

abbrev pub invariant-loop-n : goal.invariant-loop-n
invariant-loop-n l = FunctionsFrom l.imports l.part l.n l.functions.items
