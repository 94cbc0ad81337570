use Rattle.std.proofs.Common.{◌≡◌, ◌∙◌, sym, true, rules}
use Rattle.app_words.specs.View.{act_view}
use Rattle.app_play.specs.steps.Playing.{is_print}
use Rattle.pk_multi.specs.State.{state_of}
use Rattle.app_together.proofs.TogetherLemmas.{printed_step, within_said}
use Rattle.app_together.proofs.playing.ask.Goals as goal

pub returns-in-Show : goal.returns-in-Show
returns-in-Show g c =
    let s = state_of c.args.programs.now in
    let a = act_view c.args.act.now in
    let before = g.O.Sink.state c.args.out.now in
    let after = g.O.Sink.state c.print.new.out in
    let prints : is_print a ≡ true = search rules in
    within_said s c.args.ns.now a c.in-Some.who c.args.line c.print.result before after (sym c.place_of.ensures ∙ c.in-Some.is)
    (printed_step s c.in-Some.who a c.args.line c.print.result before after (search rules) prints c.print.ensures)
