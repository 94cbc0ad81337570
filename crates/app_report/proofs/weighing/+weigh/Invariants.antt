use Rattle.std.proofs.Common.{drop}
use Rattle.mc_cmd.specs.Packing.{pack_view}
use Rattle.app_report.specs.steps.Weighing.{AreKnown}
use Rattle.app_report.proofs.WeighingLemmas.{IsLeft}
use Rattle.app_report.proofs.weighing.+weigh.Given as goal

abbrev pub decreases-weigh : goal.decreases-weigh
decreases-weigh l = l.most

abbrev pub invariant-loop-text : goal.invariant-loop-text
invariant-loop-text l = record {
  left : IsLeft l.most (pack_view l.pack).functions l.full (drop l.text-index l.text-items) l.sum;
  known : AreKnown (pack_view l.pack).functions l.known;
}
