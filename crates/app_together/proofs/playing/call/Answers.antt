use Rattle.std.proofs.Common.{◌∙◌, sym, subst, List, Result, slice_get}
use Rattle.mc_nbt.specs.declared.value.Value.{Value}
use Rattle.mc_cmd.specs.Packing.{index_view}
use Rattle.mc_tick.specs.Answers.{AreOfKinds}
use Rattle.app_words.specs.Act as act
use Rattle.app_words.specs.Report.{ActedOf}
use Rattle.app_words.specs.SharedReport as report
use Rattle.app_words.specs.Lines.{busy_line}
use Rattle.mc_together.specs.Together.{Standing}
use Rattle.app_play.specs.declared.fault.PlayFault.{PlayFault}
use Rattle.app_play.proofs.PlayLemmas.{err_is}
use Rattle.pk_multi.specs.Answers.{export_at}
use Rattle.pk_multi.specs.State.{state_of}
use Rattle.app_together.specs.steps.Steps.{IsBegun, IsStep}
use Rattle.app_together.proofs.TogetherLemmas.{call_begun, call_unfound, called_busy, fits_at, said_step}
use Rattle.app_together.proofs.playing.call.Goals as goal

pub returns-then-is_running : goal.returns-then-is_running
returns-then-is_running g c =
    let s = state_of c.args.programs.now in
    let before = g.O.Sink.state c.args.out.now in
    let after = g.O.Sink.state c.leave_out.new.out in
    subst (λ (a : ActedOf Standing). IsStep s a c.args.line c.leave_out.result s before after) (sym (called_busy s c.args.who c.args.name.now c.args.args.now (sym c.is_running.ensures ∙ c.if-is_running.true)))
    (said_step s busy_line c.args.line c.leave_out.result before after c.leave_out.ensures)

pub returns-in_err-place : goal.returns-in_err-place
returns-in_err-place g c =
    let s = state_of c.args.programs.now in
    let out = g.O.Sink.state c.args.out.now in
    subst (λ (r : Result (Unit {0}) PlayFault). IsStep s (report.own_acted s.packs (act.call c.args.name.now c.args.args.now) s.standing c.args.who (slice_get s.packs c.args.who)) c.args.line r s out out)
    (sym (err_is c.from_residual.result c.in_err-place.field-0.0 c.from_residual.ensures))
    (call_unfound s c.args.who (index_view c.index.result.now) c.index.ensures c.args.line c.args.name.now c.args.args.now c.in_err-place.field-0.0 out (sym c.is_running.ensures ∙ c.if-is_running.false) c.in_err-place.ensures)

pub begin-requires-clause-fits : goal.begin-requires-clause-fits
begin-requires-clause-fits g c =
    let s = state_of c.args.programs.now in
    subst (λ (vs : List Value). AreOfKinds (export_at s c.args.who c.in_ok-place.place) vs) (sym c.deref.ensures.value)
    (fits_at s c.args.who (index_view c.index.result.now) c.index.ensures c.args.line c.args.name.now c.args.args.now (c.in_ok-place.place, c.in_ok-place.values) c.in_ok-place.ensures)

pub returns : goal.returns
returns g c =
    let s = state_of c.args.programs.now in
    let r = state_of c.begin.new.programs in
    let out = g.O.Sink.state c.args.out.now in
    call_begun s c.args.who (index_view c.index.result.now) c.index.ensures c.args.line c.args.name.now c.args.args.now (c.in_ok-place.place, c.in_ok-place.values) c.begin.result r out (sym c.is_running.ensures ∙ c.if-is_running.false) c.in_ok-place.ensures
    (subst (λ (vs : List Value). IsBegun s c.args.who c.in_ok-place.place vs c.args.line c.begin.result r) c.deref.ensures.value c.begin.ensures)
