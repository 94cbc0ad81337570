use Rattle.std.proofs.Common.{◌≡◌, length}
use Rattle.wm_match.specs.Binds.{AreBound}
use Rattle.wm_match.specs.Cause.{program}
use Rattle.wm_match.specs.steps.Directories.{AreDirectories}
use Rattle.wm_match.proofs.binding.bind_all.Given as goal

abbrev pub invariant-loop-k : goal.invariant-loop-k
invariant-loop-k l = record {
  count : length l.done.items ≡ l.k;
  bound : AreBound (program l.libs l.main l.done.items) l.k;
  directories : AreDirectories l.libs l.main l.done.items l.directories.items;
}
