use Rattle.std.proofs.Common.{◌≡◌, ◌∙◌, ap, sym, subst, true, None}
use Rattle.mc_cmd.specs.Foreign.{is_foreign, first_own}
use Rattle.mc_cmd.specs.Pack as pack
use Rattle.mc_cmd.specs.View.{cmd_view}
use Rattle.mc_tick.specs.State.{after}
use Rattle.mc_tick.specs.PlayView.{play_state}
use Rattle.mc_tick.specs.StateView.{state_of}
use Rattle.mc_tick.proofs.resumed.Resumed.other.Goals as goal

pub returns : goal.returns
returns c =
    let foreign : is_foreign (cmd_view c.args.cmd.now) ≡ true = sym c.if-not-is_foreign.ensures.foreign in
    let apart : first_own (state_of c.args.self).pack.index.ns (cmd_view c.args.cmd.now) ≡ None =
    subst (λ ns. first_own ns (cmd_view c.args.cmd.now) ≡ None) (c.names.ensures ∙ ap (λ s. s.pack.index.ns) c.play.ensures) (sym c.in_default.ensures) in
    let applied : play_state c.other.new.self ≡ after (state_of c.args.self) (pack.other (cmd_view c.args.cmd.now)) =
    c.in_ok-other.ensures ∙ ap (λ s. after s (pack.other (cmd_view c.args.cmd.now))) c.into_play-play.ensures in (
      record { fits = c.is_foreign.ensures.fits; foreign = foreign; apart = apart },
      record { state = c.of.ensures.state ∙ applied; told = c.of.ensures.told },
    )
