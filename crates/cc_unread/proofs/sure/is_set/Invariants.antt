use Rattle.std.proofs.Common.{◌≡◌, drop, map}
use Rattle.cc_line.specs.View.{scratch_text}
use Rattle.cc_unread.specs.Sure as spec
use Rattle.cc_unread.proofs.sure.is_set.Given as goal

abbrev pub invariant-loop-one : goal.invariant-loop-one
invariant-loop-one l = spec.is_set (map scratch_text (drop l.one-index l.set)) (scratch_text l.scratch) ≡ spec.is_set (map scratch_text l.set) (scratch_text l.scratch)
