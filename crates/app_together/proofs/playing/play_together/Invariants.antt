use Rattle.std.proofs.Common.{◌≡◌, drop}
use Rattle.std.specs.Prelude.{map}
use Rattle.mc_together.specs.Together.{loaded}
use Rattle.app_words.specs.SharedReport.{shared_report}
use Rattle.app_words.specs.View.{shared_line_view}
use Rattle.app_play.proofs.PlayLemmas.{Goes}
use Rattle.pk_multi.specs.State.{state_of}
use Rattle.app_together.specs.steps.Steps.{IsPlaying}
use Rattle.app_together.proofs.playing.play_together.Given as goal

abbrev pub invariant-loop-line : goal.invariant-loop-line
invariant-loop-line g l =
    let ps = (state_of l.fn.programs).packs in
    let s = state_of l.playing in
    record {
      packs : s.packs ≡ ps;
      playing : IsPlaying s;
      goes : Goes (shared_report ps (map shared_line_view l.lines) (loaded ps)) (shared_report ps (map shared_line_view (drop l.line-index l.lines)) s.standing) (g.O.Sink.state l.initial.out) (g.O.Sink.state l.out);
    }
