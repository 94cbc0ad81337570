use Rattle.std.proofs.Common.{◌≡◌, drop, reverse}
use Rattle.wm_valid.specs.steps.Checking.{each_takes}
use Rattle.wm_valid.specs.steps.Found.{labels_of}
use Rattle.wm_valid.proofs.rule.each_takes.Given as goal

abbrev pub invariant-loop-target : goal.invariant-loop-target
invariant-loop-target l = each_takes (drop l.target-index l.targets) (labels_of l.labels) (reverse l.types) ≡ each_takes l.targets (labels_of l.labels) (reverse l.types)
