use Rattle.std.proofs.Common.{◌≡◌, ◌∙◌, ◌+◌, sym, ap, subst, drop, length, ℕ, List, [], Result, Ok, Err, true}
use Rattle.std.specs.Prelude.{codes, map}
use Rattle.std.proofs.Math.ListN.{drop_of_length-le}
use Rattle.mc_cmd.specs.declared.TheConstants.{LOAD_QUOTA}
use Rattle.mc_cmd.specs.Pack.{Pack}
use Rattle.mc_together.specs.Together.{loaded, run_all, Standing}
use Rattle.app_words.specs.Lines.{last_line}
use Rattle.app_words.specs.SharedReport.{shared_acted, shared_report, used_by_all}
use Rattle.app_words.specs.SharedScript as shared
use Rattle.app_words.specs.SharedScript.{shared_fits}
use Rattle.app_words.specs.View.{shared_act_view, shared_line_view}
use Rattle.app_words.specs.declared.act.SharedLine as read
use Rattle.app_play.specs.Play.{IsPlayed}
use Rattle.app_play.specs.steps.Playing.{IsSaid}
use Rattle.app_play.specs.declared.fault.PlayFault.{PlayFault}
use Rattle.app_play.proofs.PlayLemmas.{Goes, err_is, goes_first, told_at_end}
use Rattle.pk_multi.specs.State.{State, state_of}
use Rattle.app_together.specs.steps.Steps.{IsStep}
use Rattle.app_together.proofs.TogetherLemmas.{all_at, drop_at, line_done, line_keeps, line_stopped}
use Rattle.app_together.proofs.playing.play_together.Goals as goal

pub loop-line-init : goal.loop-line-init
loop-line-init g c =
    let ps = (state_of c.args.programs).packs in
    let whole = shared_report ps (map shared_line_view c.args.lines.now) (loaded ps) in
    let first = g.O.Sink.state c.args.out.now in
    let done = c.in_ok-boot.ensures in
    let standing : (state_of c.boot.new.self).standing ≡ loaded ps =
    ap (λ (z : State). z.standing) done.1 ∙ ap (λ (s : Standing). run_all ps (codes "load") (λ i. LOAD_QUOTA) s) (ap (λ (z : State). z.standing) c.requires.made) in
    record {
      packs = ap (λ (z : State). z.packs) done.1;
      playing = (ap (λ (z : State). z.booted) done.1, ap (λ (z : State). z.failed) done.1 ∙ done.0);
      goes = subst (λ (s : Standing). Goes whole (shared_report ps (map shared_line_view c.args.lines.now) s) first first) (sym standing) (goes_first whole first);
    }

pub step-requires-clause-fits : goal.step-requires-clause-fits
step-requires-clause-fits g c =
    let fit = all_at shared_line_view (λ (l : shared.SharedLine). shared_fits (length (state_of c.args.programs).packs) l.act) c.args.lines.now c.loop-line.line-index c.line-item.result c.loop-line-test.true c.line-item.is c.requires.fit in
    subst (λ (ps : List Pack). shared_fits (length ps) (shared_act_view c.line-item.result.act) ≡ true) (sym c.loop-line.invariant.packs) fit

pub returns-in_err-step : goal.returns-in_err-step
returns-in_err-step g c =
    let ps = (state_of c.args.programs).packs in
    let whole = shared_report ps (map shared_line_view c.args.lines.now) (loaded ps) in
    let s = state_of c.loop-line.playing in
    let r = state_of c.step.new.programs in
    let line = c.line-item.result in
    let fault = c.in_err-step.field-0.0 in
    let first = g.O.Sink.state c.args.out.now in
    let before = g.O.Sink.state c.loop-line.out in
    let after = g.O.Sink.state c.step.new.out in
    let rest = map shared_line_view (drop (c.loop-line.line-index + 1) c.args.lines.now) in
    let stepped = subst (λ (qs : List Pack). IsStep s (shared_acted qs (shared_act_view line.act) s.standing) line.line (Err fault) r before after) c.loop-line.invariant.packs c.in_err-step.ensures in
    let next = drop_at c.args.lines.now c.loop-line.line-index line c.loop-line-test.true c.line-item.is in
    let goes = subst (λ (ls : List shared.SharedLine). Goes whole (shared_report ps ls s.standing) first before) next c.loop-line.invariant.goes in
    subst (λ (x : Result (Unit {0}) PlayFault). IsPlayed whole x first after) (sym (err_is c.from_residual-in_err-step.result fault c.from_residual-in_err-step.ensures))
    (line_stopped line.line s (shared_acted ps (shared_act_view line.act) s.standing) (shared_report ps rest) whole r first before after fault goes stepped)

pub loop-line-preserved : goal.loop-line-preserved
loop-line-preserved g c =
    let ps = (state_of c.args.programs).packs in
    let whole = shared_report ps (map shared_line_view c.args.lines.now) (loaded ps) in
    let s = state_of c.loop-line.playing in
    let r = state_of c.step.new.programs in
    let line = c.line-item.result in
    let first = g.O.Sink.state c.args.out.now in
    let before = g.O.Sink.state c.loop-line.out in
    let after = g.O.Sink.state c.step.new.out in
    let rest = map shared_line_view (drop (c.loop-line.line-index + 1) c.args.lines.now) in
    let stepped = subst (λ (qs : List Pack). IsStep s (shared_acted qs (shared_act_view line.act) s.standing) line.line (Ok tt) r before after) c.loop-line.invariant.packs c.in_ok-step.ensures in
    let next = drop_at c.args.lines.now c.loop-line.line-index line c.loop-line-test.true c.line-item.is in
    let goes = subst (λ (ls : List shared.SharedLine). Goes whole (shared_report ps ls s.standing) first before) next c.loop-line.invariant.goes in
    let keeps = line_keeps line.line s (shared_acted ps (shared_act_view line.act) s.standing) r before after stepped in
    record {
      packs = keeps.0 ∙ c.loop-line.invariant.packs;
      playing = (keeps.1 ∙ c.loop-line.invariant.playing.0, keeps.2 ∙ c.loop-line.invariant.playing.1);
      goes = line_done line.line s (shared_acted ps (shared_act_view line.act) s.standing) (shared_report ps rest) whole r first before after goes stepped;
    }

pub returns : goal.returns
returns g c =
    let ps = (state_of c.args.programs).packs in
    let whole = shared_report ps (map shared_line_view c.args.lines.now) (loaded ps) in
    let s = state_of c.loop-line.playing in
    let first = g.O.Sink.state c.args.out.now in
    let before = g.O.Sink.state c.loop-line.out in
    let after = g.O.Sink.state c.tell_counts.new.out in
    let none : drop c.loop-line.line-index c.args.lines.now ≡ [] = drop_of_length-le c.args.lines.now c.loop-line-test.false in
    let used = c.used_by_all-used.ensures ∙ ap (λ (qs : List Pack). used_by_all qs s.standing) c.loop-line.invariant.packs in
    let said = subst (λ (t : ℕ). IsSaid (last_line t c.used_by_all-used.result) before after c.tell_counts.result) c.ticks-ticks.ensures c.tell_counts.ensures in
    let told = subst (λ (u : ℕ). IsSaid (last_line s.standing.ticks u) before after c.tell_counts.result) used said in
    told_at_end whole (shared_report ps (map shared_line_view (drop c.loop-line.line-index c.args.lines.now)) s.standing) (last_line s.standing.ticks (used_by_all ps s.standing)) first before after c.tell_counts.result c.loop-line.invariant.goes
    (ap (λ (ls : List read.SharedLine). shared_report ps (map shared_line_view ls) s.standing) none) told
