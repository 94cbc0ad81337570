use Rattle.std.proofs.Common.{◌≡◌, drop}
use Rattle.pk_files.specs.steps.Reading.{HasRoomFor}
use Rattle.pk_files.proofs.ReadLemmas.{Continues}
use Rattle.pk_files.proofs.get.read_each.Given as goal

abbrev pub invariant-loop-name : goal.invariant-loop-name
invariant-loop-name g l = record {
  same : g.F.Files.state l.files ≡ g.F.Files.state l.initial.files;
  index : l.pack.index ≡ l.fn.index;
  room : HasRoomFor l.pack (drop l.name-index l.names);
  continues : Continues (g.F.Files.state l.initial.files).content l.folder l.pack.functions (drop l.name-index l.names) l.names;
}
