use Rattle.std.proofs.Common.{◌-◌, length}
use Rattle.wm_match.proofs.DirectoryLaws.{NamedFrom}
use Rattle.wm_match.proofs.directory.exports_by_name.Given as goal

abbrev pub invariant-loop-k : goal.invariant-loop-k
invariant-loop-k l = NamedFrom l.exports (length l.exports - l.k) l.names
