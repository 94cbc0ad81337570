use Rattle.std.proofs.Common.{List, ◌++◌, ap, ◌∙◌, refl, reverse}
use Rattle.wm_ast.specs.declared.module.ValType.{ValType}
use Rattle.wm_place.specs.Stop.{visit_told}
use Rattle.wm_place.specs.Visit.{Visit}
use Rattle.cc_line.specs.declared.step.Act.{Act}
use Rattle.cc_line.specs.View.{conds_view}
use Rattle.cc_call.specs.View.{acts_view}
use Rattle.cc_pieces.specs.View.{list_view}
use Rattle.cc_pieces.specs.Lists.{acts_list, exit_list}
use Rattle.cc_body.specs.steps.Emission.{Ground}
use Rattle.cc_body.specs.steps.PieceBuilder.{ground}
use Rattle.cc_body.proofs.BranchLemmas.{label_more, labels_done}
use Rattle.cc_body.proofs.branch.push_table.Goals as goal

pub loop-index-preserved : goal.loop-index-preserved
loop-index-preserved c =
    let g : Ground = ground c.args.body.now in
    let v : Visit = visit_told c.args.stop in
    let ts : List ValType = reverse c.args.kinds.now in
    label_more g v ts c.args.place c.args.labels.now c.loop-index.index _ _ (conds_view c.in_ok-is_index.field-0) _ _ _ _ c.loop-index-test.true refl c.in_ok-is_index.ensures c.in_ok-acts.ensures
    (c.in_ok-push_exit.ensures ∙ ap (λ (l : List Act). list_view c.loop-index.items.items ++ exit_list (conds_view c.in_ok-is_index.field-0) (acts_view l)) c.as_slice.ensures.value)
    c.loop-index.invariant

pub returns : goal.returns
returns c =
    let g : Ground = ground c.args.body.now in
    let v : Visit = visit_told c.args.stop in
    let ts : List ValType = reverse c.args.kinds.now in
    labels_done g v ts c.args.place _ _ _ _ _ _ _ c.loop-index-test.false c.in_ok-acts-2.ensures
    (c.in_ok-push_acts.ensures ∙ ap (λ (l : List Act). list_view c.loop-index.items.items ++ acts_list (acts_view l)) c.as_slice-2.ensures.value) c.loop-index.invariant
