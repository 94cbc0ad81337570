use Rattle.std.proofs.Common.{ap, ◌∙◌}
use Rattle.cc_line.specs.View.{items_view}
use Rattle.cc_line.proofs.ItemViewLemmas.{view_joined}
use Rattle.cc_line.proofs.build.push_item.Goals as goal

pub returns : goal.returns
returns c = ap items_view c.in_ok-push.ensures.items ∙ view_joined _ _
