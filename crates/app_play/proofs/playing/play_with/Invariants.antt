use Rattle.std.proofs.Common.{◌≡◌, drop}
use Rattle.std.specs.Prelude.{map}
use Rattle.mc_cmd.specs.Pack.{loaded}
use Rattle.mc_cmd.specs.Packing.{pack_view}
use Rattle.app_words.specs.View.{line_view}
use Rattle.app_words.specs.WhereReport.{IsReport}
use Rattle.mc_tick.specs.StateView.{IsTold, state_of}
use Rattle.app_play.proofs.WhereLemmas.{GoesAs}
use Rattle.app_play.proofs.playing.play_with.Given as goal

abbrev pub invariant-loop-line : goal.invariant-loop-line
invariant-loop-line g l = record {
  pack : (state_of l.state).pack ≡ pack_view l.fn.pack;
  told : IsTold l.state;
  goes : GoesAs
      (IsReport (g.L.Locator.may_tell l.locator) (pack_view l.fn.pack) (map line_view l.lines) (loaded (pack_view l.fn.pack)))
      (IsReport (g.L.Locator.may_tell l.locator) (pack_view l.fn.pack) (map line_view (drop l.line-index l.lines)) (state_of l.state).standing)
      (g.O.Sink.state l.initial.out) (g.O.Sink.state l.out);
}
