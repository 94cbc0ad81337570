use Rattle.std.proofs.Common.{◌≡◌, ◌∙◌, sym, true, false}
use Rattle.app_words.specs.View.{act_view}
use Rattle.mc_tick.specs.StateView.{state_of}
use Rattle.app_play.specs.steps.Playing.{is_where}
use Rattle.app_play.proofs.WhereLemmas.{stepped_alone, stepped_where, stopped_where}
use Rattle.app_play.proofs.playing.step.Goals as goal

pub returns-then-not-is_where : goal.returns-then-not-is_where
returns-then-not-is_where g c =
    let silent : is_where (act_view c.args.line.now.act) ≡ false = sym c.is_where.ensures ∙ c.if-not-is_where.true in
    stepped_alone (g.L.Locator.may_tell c.args.locator.now) (state_of c.args.state) (act_view c.args.line.now.act) c.args.line.now.line c.act.result
    (g.O.Sink.state c.args.out.now) (g.O.Sink.state c.act.new.out) silent c.act.ensures

pub returns-in-Ok : goal.returns-in-Ok
returns-in-Ok g c =
    let asks : is_where (act_view c.args.line.now.act) ≡ true = sym c.is_where.ensures ∙ c.if-not-is_where.false in
    stepped_where (g.L.Locator.may_tell c.args.locator.now) c.args.state (act_view c.args.line.now.act) c.args.line.now.line
    (g.O.Sink.state c.args.out.now) (g.O.Sink.state c.locate.new.out) asks c.requires c.in-Ok.ensures

pub returns-in-Err : goal.returns-in-Err
returns-in-Err g c =
    let asks : is_where (act_view c.args.line.now.act) ≡ true = sym c.is_where.ensures ∙ c.if-not-is_where.false in
    stopped_where (g.L.Locator.may_tell c.args.locator.now) (state_of c.args.state) (act_view c.args.line.now.act) c.args.line.now.line c.in-Err.fault
    (g.O.Sink.state c.args.out.now) (g.O.Sink.state c.locate.new.out) asks c.in-Err.ensures
