use Rattle.std.proofs.Common.{◌≡◌, ◌∙◌, ap}
use Rattle.mc_cmd.specs.Packing.{pack_view}
use Rattle.mc_engine.specs.EngineView.{Shown}
use Rattle.mc_tick.specs.State.{booted}
use Rattle.mc_tick.specs.StateView.{loaded_pack, state_of}
use Rattle.app_workload.proofs.TellingLemmas.{all_plays}
use Rattle.app_workload.proofs.lines.play_pack.Goals as goal

pub returns : goal.returns
returns c =
    let p = pack_view c.args.pack in
    let same : loaded_pack c.new.result ≡ p = c.new.ensures c.args.pack (ap (λ (e : Shown). e.packs) c.in_ok-engine.ensures.shown) in
    all_plays p (state_of c.in_ok-booted.booted) c.in_ok-state.state c.played_lines-told.result (c.in_ok-booted.ensures.state ∙ ap booted same) c.in_ok-state.ensures c.played_lines-told.ensures
