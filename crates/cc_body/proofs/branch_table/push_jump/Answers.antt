use Rattle.std.proofs.Common.{List, ◌++◌, ap, ◌∙◌}
use Rattle.wm_place.specs.Stop.{visit_told}
use Rattle.cc_line.specs.declared.step.Act.{Act}
use Rattle.cc_call.specs.View.{acts_view}
use Rattle.cc_pieces.specs.View.{list_view}
use Rattle.cc_pieces.specs.Lists.{acts_list}
use Rattle.cc_body.specs.steps.PieceBuilder.{ground}
use Rattle.cc_body.proofs.BranchTableLemmas.{jump_made}
use Rattle.cc_body.proofs.branch_table.push_jump.Goals as goal

pub returns : goal.returns
returns c =
    jump_made (ground c.args.body.now) (visit_told c.args.stop) c.args.labels.now c.args.last _ _ c.in_ok-numbers.ensures c.in_ok-look.ensures _ _ _ _ _ _ (ap acts_view c.new-acts.ensures.items)
    c.in_ok-push_named.ensures c.in_ok-push_block.ensures
    (c.in_ok-push_acts.ensures ∙ ap (λ (l : List Act). list_view c.push_block.new.items.items ++ acts_list (acts_view l)) c.as_slice.ensures.value) c.in_ok-push_end.ensures
