use Rattle.std.proofs.Common.{◌≡◌, drop}
use Rattle.app_top.proofs.JoinLemmas.{ReadsOn}
use Rattle.app_top.proofs.inputs.read_libraries.Given as goal

abbrev pub invariant-loop-library : goal.invariant-loop-library
invariant-loop-library g l = record {
  same : g.F.Files.state l.files ≡ g.F.Files.state l.initial.files;
  reads : ReadsOn (g.F.Files.state l.initial.files).content l.found (drop l.library-index l.libraries) l.libraries;
}
