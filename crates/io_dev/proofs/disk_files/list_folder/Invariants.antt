use Rattle.std.proofs.Common.{◌≤◌}
use Rattle.io_dev.specs.declared.disk_files.TheConstants.{MAX_NAMES}
use Rattle.std.specs.BTreeSet.{btree_set_len}
use Rattle.io_dev.proofs.disk_files.list_folder.Given as goal

abbrev pub invariant-loop-entry : goal.invariant-loop-entry
invariant-loop-entry g l = btree_set_len l.names ≤ MAX_NAMES
