use Rattle.std.specs.Prelude.{map}
use Rattle.mc_cmd.specs.Pack.{loaded}
use Rattle.mc_cmd.specs.Packing.{pack_view}
use Rattle.app_words.specs.View.{line_view}
use Rattle.app_play.proofs.WhereLemmas.{played_silent}
use Rattle.app_play.proofs.playing.play.Goals as goal

pub returns : goal.returns
returns g c =
    let p = pack_view c.args.pack in
    played_silent _ (λ ns w t h. h) p (map line_view c.args.lines.now) (loaded p) c.play_with.result (g.O.Sink.state c.args.out.now) (g.O.Sink.state c.play_with.new.out)
    c.play_with.ensures
