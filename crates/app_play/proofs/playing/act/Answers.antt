use Rattle.std.proofs.Common.{◌≡◌, sym, subst, true, Err, rules}
use Rattle.app_words.specs.Report.{Acted, acted}
use Rattle.app_words.specs.View.{act_view}
use Rattle.mc_tick.specs.StateView.{state_of}
use Rattle.app_play.specs.steps.Playing.{IsStep, is_print, printed}
use Rattle.app_play.proofs.PlayLemmas.{made_step, print_acts, said_step}
use Rattle.app_play.proofs.playing.act.Goals as goal

pub returns-in-Tick : goal.returns-in-Tick
returns-in-Tick g c =
    let s = state_of c.args.state in
    made_step s (acted s.pack (act_view c.args.line.now.act) s.standing) c.args.line.now.line c.happen.result (g.O.Sink.state c.args.out.now) c.happen.ensures

pub returns-in-Err : goal.returns-in-Err
returns-in-Err g c =
    let s = state_of c.args.state in
    let a = act_view c.args.line.now.act in
    let before = g.O.Sink.state c.args.out.now in
    let after = g.O.Sink.state c.print.new.out in
    let prints : is_print a ≡ true = search rules in
    subst (λ (x : Acted). IsStep s x c.args.line.now.line (Err c.in-Err.fault) before after) (sym (print_acts s.pack a s.standing prints))
    (said_step s (printed s.pack.index.ns s.standing.world a) s.standing c.args.line.now.line c.in-Err.fault before after c.in-Err.ensures)
