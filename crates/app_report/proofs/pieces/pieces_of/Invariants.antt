use Rattle.std.proofs.Common.{◌≡◌, filter_map, take}
use Rattle.mc_cmd.specs.Packing.{names, pack_view}
use Rattle.app_report.specs.Costs.{piece_in}
use Rattle.app_report.specs.steps.Weighing.{AreKnown}
use Rattle.app_report.proofs.pieces.pieces_of.Given as goal

abbrev pub invariant-loop-at : goal.invariant-loop-at
invariant-loop-at l = record {
  so_far : l.pieces.items ≡ filter_map (piece_in l.pack l.funcs) (take l.at (names l.pack));
  known : AreKnown (pack_view l.pack).functions l.known;
}
