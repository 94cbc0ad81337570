use Rattle.std.proofs.Common.{map, drop}
use Rattle.pk_files.specs.Put.{function_written}
use Rattle.pk_files.proofs.PutLemmas.{PutsOn}
use Rattle.pk_files.proofs.put.write_functions.Given as goal

abbrev pub invariant-loop-at : goal.invariant-loop-at
invariant-loop-at g l =
    PutsOn (g.F.Files.state l.initial.files) (g.F.Files.state l.files) (drop l.at (map (function_written l.folder) l.pack.functions)) (map (function_written l.folder) l.pack.functions)
