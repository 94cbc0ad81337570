use Rattle.std.proofs.Common.{List, ◌++◌, ap, ◌∙◌}
use Rattle.wm_place.specs.Stop.{visit_told}
use Rattle.cc_line.specs.declared.step.Act.{Act}
use Rattle.cc_call.specs.View.{acts_view}
use Rattle.cc_pieces.specs.View.{list_view}
use Rattle.cc_pieces.specs.Lists.{acts_list}
use Rattle.cc_body.specs.steps.PieceBuilder.{ground}
use Rattle.cc_body.proofs.BranchTableLemmas.{carry_made}
use Rattle.cc_body.proofs.branch_table.push_carried.Goals as goal

pub returns : goal.returns
returns c =
    carry_made (ground c.args.body.now) (visit_told c.args.stop) c.args.labels.now c.args.last _ _ c.in_ok-numbers.ensures c.in_ok-look.ensures c.args.place c.args.count _ _ _ _ _ _ _ _ _ _ _ _ _ _
    (ap acts_view c.new-follows.ensures.items) c.in_ok-push_named.ensures (ap acts_view c.new-hands.ensures.items) c.saturating_sub.ensures c.in_ok-push_hands.ensures c.in_ok-push_named-2.ensures
    c.in_ok-placers.ensures c.in_ok-find.ensures c.in_ok-push_block.ensures
    (c.in_ok-push_acts.ensures ∙ ap (λ (l : List Act). list_view c.push_block.new.items.items ++ acts_list (acts_view l)) c.as_slice.ensures.value) c.in_ok-push_block-2.ensures
    (c.in_ok-push_acts-2.ensures ∙ ap (λ (l : List Act). list_view c.push_block-2.new.items.items ++ acts_list (acts_view l)) c.as_slice-2.ensures.value) c.in_ok-push_end.ensures
