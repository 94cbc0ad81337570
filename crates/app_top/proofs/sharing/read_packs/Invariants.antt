use Rattle.std.proofs.Common.{◌≡◌, drop, map}
use Rattle.pk_files.specs.Told.{told_of}
use Rattle.app_top.proofs.SharedLemmas.{PacksOn}
use Rattle.app_top.proofs.sharing.read_packs.Given as goal

abbrev pub invariant-loop-dir : goal.invariant-loop-dir
invariant-loop-dir g l = record {
  same : g.F.Files.state l.files ≡ g.F.Files.state l.initial.files;
  reads : PacksOn (g.F.Files.state l.initial.files) (map told_of l.packs.items) (drop l.dir-index l.dirs) l.dirs;
}
