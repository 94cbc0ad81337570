use Rattle.std.proofs.Common.{◌≡◌, ◌∙◌, sym, ap, subst, ◌+◌, drop, Some, arith}
use Rattle.std.specs.Prelude.{option_copied, option_map}
use Rattle.mc_cmd.specs.Chain.{line_of}
use Rattle.mc_cmd.specs.Packing.{pack_view}
use Rattle.app_report.specs.Costs.{line_runs}
use Rattle.app_report.specs.steps.Weighing.{AreKnown}
use Rattle.app_report.proofs.WeighingLemmas.{IsLeft, call_weighs, called_light, called_weighs, first_alone, first_at, first_called, known_noted, left_all, left_end, light_stands}
use Rattle.app_report.proofs.weighing.+weigh.Goals.{in-Some-called+in_ok-sum, in_default-called}
use Rattle.app_report.proofs.weighing.+weigh.Goals as goal

pub returns-in-Some-clause-weight : goal.returns-in-Some-clause-weight
returns-in-Some-clause-weight t c =
    c.requires.known c.args.full.now c.in-Some.weight.now (sym c.get.ensures.value ∙ ap option_copied c.in-Some.is)

pub unreachable-requires : goal.unreachable-requires
unreachable-requires t c =
    light_stands c.args.most (pack_view c.args.pack.now).functions c.args.full.now (sym c.in_ok-lines.ensures ∙ ap (option_map (λ ts. ts.now)) c.in_default-2.is) c.requires.light

pub loop-text-init : goal.loop-text-init
loop-text-init t c =
    record {
      left = left_all c.args.most (pack_view c.args.pack.now).functions c.args.full.now c.as_slice-text-items.result.now (sym c.in_ok-lines.ensures ∙ ap (option_map (λ ts. ts.now)) c.in-Some-2.is ∙ ap Some (sym c.as_slice-text-items.ensures)) c.requires.light;
      known = c.requires.known;
    }

pub overflow_add-sum : goal.overflow_add-sum
overflow_add-sum t c =
    let one = first_at c.args.most (pack_view c.args.pack.now).functions c.args.full.now c.as_slice-text-items.result.now c.loop-text.text-index c.text-item.result c.loop-text.sum c.loop-text-test.true c.text-item.is c.loop-text.invariant.left in
    omega (arith, one.light, c.in_ok-step.ensures.weight, c.requires.bound)

pub overflow_sub-most : goal.overflow_sub-most
overflow_sub-most t c =
    let one = first_at c.args.most (pack_view c.args.pack.now).functions c.args.full.now c.as_slice-text-items.result.now c.loop-text.text-index c.text-item.result c.loop-text.sum c.loop-text-test.true c.text-item.is c.loop-text.invariant.left in
    let weighs = call_weighs (line_of c.text-item.result) c.in-Some-called.called (sym c.in_ok-step.ensures.called ∙ c.in-Some-called.is) in
    omega (arith, one.light, weighs)

pub weigh-requires : goal.weigh-requires
weigh-requires t c =
    let functions = (pack_view c.args.pack.now).functions in
    let items = c.as_slice-text-items.result.now in
    let one = first_at c.args.most functions c.args.full.now items c.loop-text.text-index c.text-item.result c.loop-text.sum c.loop-text-test.true c.text-item.is c.loop-text.invariant.left in
    let runs : line_runs (line_of c.text-item.result) ≡ Some c.in-Some-called.called = sym c.in_ok-step.ensures.called ∙ c.in-Some-called.is in
    let weighs = call_weighs (line_of c.text-item.result) c.in-Some-called.called runs in (
      omega (arith, c.decreases, one.light, weighs),
      (
        called_light c.args.most functions c.args.full.now c.text-item.result c.in-Some-called.called (drop (c.loop-text.text-index + 1) items) c.loop-text.sum runs one,
        (
          omega (arith, c.requires.bound),
          c.loop-text.invariant.known,
        ),
      ),
    )

pub overflow_add-sum-in-Some-called : goal.overflow_add-sum-in-Some-called
overflow_add-sum-in-Some-called t c =
    let functions = (pack_view c.args.pack.now).functions in
    let items = c.as_slice-text-items.result.now in
    let one = first_at c.args.most functions c.args.full.now items c.loop-text.text-index c.text-item.result c.loop-text.sum c.loop-text-test.true c.text-item.is c.loop-text.invariant.left in
    let runs : line_runs (line_of c.text-item.result) ≡ Some c.in-Some-called.called = sym c.in_ok-step.ensures.called ∙ c.in-Some-called.is in
    let same = called_weighs c.args.most functions c.args.full.now c.text-item.result c.in-Some-called.called (drop (c.loop-text.text-index + 1) items) c.loop-text.sum c.in_ok-sum.field-0 c.requires.bound runs one c.in_ok-sum.ensures.weight in
    omega (arith, one.light, c.in_ok-step.ensures.weight, same, c.requires.bound)

pub loop-text-preserved : goal.loop-text-preserved
loop-text-preserved t c =
    let functions = (pack_view c.args.pack.now).functions in
    let items = c.as_slice-text-items.result.now in
    let rest = drop (c.loop-text.text-index + 1) items in
    let text = c.text-item.result in
    let sum = c.loop-text.sum in
    let one = first_at c.args.most functions c.args.full.now items c.loop-text.text-index text sum c.loop-text-test.true c.text-item.is c.loop-text.invariant.left in
    elim c.match-step.branch [
      | in-Some-called+in_ok-sum w ↦ record {
        left = subst (IsLeft c.args.most functions c.args.full.now rest) (ap (λ k. sum + k + w.in_ok-sum.field-0) (sym c.in_ok-step.ensures.weight) ∙ sym w.sum-is) (first_called c.args.most functions c.args.full.now text w.in-Some-called.called rest sum w.in_ok-sum.field-0 c.requires.bound (sym c.in_ok-step.ensures.called ∙ w.in-Some-called.is) one w.in_ok-sum.ensures.weight);
        known = subst (AreKnown functions) (sym w.known-is) w.in_ok-sum.ensures.known;
      }
      | in_default-called w ↦ record {
        left = subst (IsLeft c.args.most functions c.args.full.now rest) (ap (λ k. sum + k) (sym c.in_ok-step.ensures.weight) ∙ sym w.sum-is) (first_alone c.args.most functions c.args.full.now text rest sum (sym c.in_ok-step.ensures.called ∙ w.in_default-called.is) one);
        known = subst (AreKnown functions) (sym w.known-is) c.loop-text.invariant.known;
      }
    ]

pub returns-clause-weight : goal.returns-clause-weight
returns-clause-weight t c =
    left_end c.args.most (pack_view c.args.pack.now).functions c.args.full.now c.as_slice-text-items.result.now c.loop-text.text-index c.loop-text.sum c.requires.bound c.loop-text-test.false c.loop-text.invariant.left

pub returns-clause-known : goal.returns-clause-known
returns-clause-known t c =
    let functions = (pack_view c.args.pack.now).functions in
    known_noted functions c.loop-text.known c.note.new.known c.args.full.now c.loop-text.sum c.in_ok-note.ensures
    (left_end c.args.most functions c.args.full.now c.as_slice-text-items.result.now c.loop-text.text-index c.loop-text.sum c.requires.bound c.loop-text-test.false c.loop-text.invariant.left)
    c.loop-text.invariant.known

pub returns-in-Some-clause-known : goal.returns-in-Some-clause-known
returns-in-Some-clause-known t c = c.requires.known
