use Rattle.std.proofs.Common.{◌≡◌, false, true, reverse, get_or, sym, ap, ◌∙◌, arith}
use Rattle.std.specs.Prelude.{slice_get}
use Rattle.wm_valid.specs.steps.Checking.{takes}
use Rattle.wm_valid.specs.steps.Found.{labels_of}
use Rattle.wm_valid.proofs.ArrowLaws.{next_target}
use Rattle.wm_valid.proofs.rule.each_takes.Goals as goal

pub returns-then-not-are_same : goal.returns-then-not-are_same
returns-then-not-are_same c =
    let ts = reverse c.args.types.now in
    let labels = labels_of c.args.labels.now in
    let e : takes ts (slice_get labels (get_or c.args.targets.now c.loop-target.target-index 0)) ≡ false = ap (takes ts) (sym c.in-Some.ensures) ∙ sym c.are_same.ensures ∙ c.if-not-are_same.true in
    sym (sym c.loop-target.invariant ∙ next_target c.args.targets.now c.loop-target.target-index labels ts false (omega arith) e)

pub loop-target-preserved : goal.loop-target-preserved
loop-target-preserved c =
    let ts = reverse c.args.types.now in
    let labels = labels_of c.args.labels.now in
    let e : takes ts (slice_get labels (get_or c.args.targets.now c.loop-target.target-index 0)) ≡ true = ap (takes ts) (sym c.in-Some.ensures) ∙ sym c.are_same.ensures ∙ c.if-not-are_same.false in
    sym (next_target c.args.targets.now c.loop-target.target-index labels ts true (omega arith) e) ∙ c.loop-target.invariant
