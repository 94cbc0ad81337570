use Rattle.std.proofs.Common.{map, drop}
use Rattle.pk_files.specs.steps.Writing.{file_view}
use Rattle.pk_files.proofs.PutLemmas.{PutsOn}
use Rattle.pk_files.proofs.put.write_all.Given as goal

abbrev pub invariant-loop-file : goal.invariant-loop-file
invariant-loop-file g l =
    PutsOn (g.F.Files.state l.initial.files) (g.F.Files.state l.files) (map file_view (drop l.file-index l.list)) (map file_view l.list)
