use Rattle.std.proofs.Common.{◌≡◌, ◌∙◌, ◌+◌, sym, ap, subst, drop, ℕ, List, [], Result}
use Rattle.std.specs.Prelude.{map}
use Rattle.std.proofs.Math.ListN.{drop_of_length-le}
use Rattle.mc_cmd.specs.Pack.{Standing, loaded}
use Rattle.mc_cmd.specs.Packing.{pack_view}
use Rattle.mc_engine.specs.EngineView.{Shown}
use Rattle.app_words.specs.Act.{ScriptLine}
use Rattle.app_words.specs.Lines.{last_line}
use Rattle.app_words.specs.View.{line_view}
use Rattle.app_words.specs.WhereReport.{IsReport}
use Rattle.app_words.specs.declared.act.ScriptLine as read
use Rattle.mc_tick.specs.State.{State}
use Rattle.mc_tick.specs.StateView.{loaded_pack, state_of}
use Rattle.app_play.specs.Play.{IsPlayedAs}
use Rattle.app_play.specs.declared.fault.PlayFault.{PlayFault}
use Rattle.app_play.specs.declared.fault.PlayFault.TheVariants as faults
use Rattle.app_play.specs.steps.Playing.{IsSaid}
use Rattle.app_play.proofs.PlayLemmas.{drop_at, err_is}
use Rattle.app_play.proofs.WhereLemmas.{GoesAs, done_as, ended_as, goes_as_first, stopped_as, unbegun_as}
use Rattle.app_play.proofs.playing.play_with.Goals as goal

pub returns-in_err-engine : goal.returns-in_err-engine
returns-in_err-engine g c =
    let May = g.L.Locator.may_tell c.args.locator.now in
    let p = pack_view c.args.pack in
    let ls = map line_view c.args.lines.now in
    let first = g.O.Sink.state c.args.out.now in
    subst (λ (r : Result (Unit {0}) PlayFault). IsPlayedAs (IsReport May p ls (loaded p)) r first first) (sym (err_is c.from_residual.result faults.Memory c.from_residual.ensures))
    (unbegun_as May p ls (loaded p) first)

pub returns-in_err-state : goal.returns-in_err-state
returns-in_err-state g c =
    let May = g.L.Locator.may_tell c.args.locator.now in
    let p = pack_view c.args.pack in
    let ls = map line_view c.args.lines.now in
    let first = g.O.Sink.state c.args.out.now in
    subst (λ (r : Result (Unit {0}) PlayFault). IsPlayedAs (IsReport May p ls (loaded p)) r first first) (sym (err_is c.from_residual-in_err-state.result faults.Memory c.from_residual-in_err-state.ensures))
    (unbegun_as May p ls (loaded p) first)

pub loop-line-init : goal.loop-line-init
loop-line-init g c =
    let May = g.L.Locator.may_tell c.args.locator.now in
    let p = pack_view c.args.pack in
    let ls = map line_view c.args.lines.now in
    let All = IsReport May p ls (loaded p) in
    let first = g.O.Sink.state c.args.out.now in
    let resumed = c.in_ok-state.ensures in
    let same : loaded_pack c.new.result ≡ p = c.new.ensures c.args.pack (ap (λ (e : Shown). e.packs) c.in_ok-engine.ensures.shown) in
    let standing : (state_of c.in_ok-state.state).standing ≡ loaded p = ap (λ (z : State). z.standing) resumed.state ∙ ap loaded same in
    record {
      pack = ap (λ (z : State). z.pack) resumed.state ∙ same;
      told = resumed.told;
      goes = subst (λ (s : Standing). GoesAs All (IsReport May p ls s) first first) (sym standing) (goes_as_first All first);
    }

pub returns-in_err-state-2 : goal.returns-in_err-state-2
returns-in_err-state-2 g c =
    let May = g.L.Locator.may_tell c.args.locator.now in
    let p = pack_view c.args.pack in
    let All = IsReport May p (map line_view c.args.lines.now) (loaded p) in
    let s = state_of c.loop-line.state in
    let line = c.line-item.result in
    let fault = c.in_err-state-2.field-0.0 in
    let first = g.O.Sink.state c.args.out.now in
    let before = g.O.Sink.state c.loop-line.out in
    let after = g.O.Sink.state c.step.new.out in
    let rest = map line_view (drop (c.loop-line.line-index + 1) c.args.lines.now) in
    let next = drop_at c.args.lines.now c.loop-line.line-index line c.loop-line-test.true c.line-item.is in
    let goes = subst (λ (ls : List ScriptLine). GoesAs All (IsReport May p ls s.standing) first before) next c.loop-line.invariant.goes in
    subst (λ (r : Result (Unit {0}) PlayFault). IsPlayedAs All r first after) (sym (err_is c.from_residual-in_err-state-2.result fault c.from_residual-in_err-state-2.ensures))
    (stopped_as May p (line_view line) rest All first before after s fault c.loop-line.invariant.pack c.in_err-state-2.ensures goes)

pub loop-line-preserved : goal.loop-line-preserved
loop-line-preserved g c =
    let May = g.L.Locator.may_tell c.args.locator.now in
    let p = pack_view c.args.pack in
    let All = IsReport May p (map line_view c.args.lines.now) (loaded p) in
    let s = state_of c.loop-line.state in
    let line = c.line-item.result in
    let first = g.O.Sink.state c.args.out.now in
    let before = g.O.Sink.state c.loop-line.out in
    let after = g.O.Sink.state c.step.new.out in
    let rest = map line_view (drop (c.loop-line.line-index + 1) c.args.lines.now) in
    let next = drop_at c.args.lines.now c.loop-line.line-index line c.loop-line-test.true c.line-item.is in
    let goes = subst (λ (ls : List ScriptLine). GoesAs All (IsReport May p ls s.standing) first before) next c.loop-line.invariant.goes in
    let done = done_as May p (line_view line) rest All first before after s c.in_ok-state-2.state c.loop-line.invariant.pack c.in_ok-state-2.ensures goes in
    record {
      pack = done.0 ∙ c.loop-line.invariant.pack;
      told = done.1;
      goes = done.2;
    }

pub returns : goal.returns
returns g c =
    let May = g.L.Locator.may_tell c.args.locator.now in
    let p = pack_view c.args.pack in
    let All = IsReport May p (map line_view c.args.lines.now) (loaded p) in
    let s = (state_of c.loop-line.state).standing in
    let stands = ap (λ (z : State). z.standing) c.play-played.ensures in
    let first = g.O.Sink.state c.args.out.now in
    let before = g.O.Sink.state c.loop-line.out in
    let after = g.O.Sink.state c.tell_counts.new.out in
    let none : drop c.loop-line.line-index c.args.lines.now ≡ [] = drop_of_length-le c.args.lines.now c.loop-line-test.false in
    let said = subst (λ (t : ℕ). IsSaid (last_line t c.used-used.result) before after c.tell_counts.result) (c.ticks-ticks.ensures ∙ ap (λ (z : Standing). z.ticks) stands) c.tell_counts.ensures in
    let told = subst (λ (u : ℕ). IsSaid (last_line s.ticks u) before after c.tell_counts.result) (c.used-used.ensures ∙ ap (λ (z : Standing). z.used) stands) said in
    let goes = subst (λ (ls : List read.ScriptLine). GoesAs All (IsReport May p (map line_view ls) s) first before) none c.loop-line.invariant.goes in
    ended_as May p All s first before after c.tell_counts.result goes told
