use Rattle.cc_names.proofs.Walks.{walked_on}
use Rattle.cc_names.proofs.walk.with_needed_names.Goals as goal

pub loop-item-preserved : goal.loop-item-preserved
loop-item-preserved c =
    walked_on c.loop-item.yielded c.in-Some.item c.freed-item.result c.loop-item.needed c.go_before-needed.result c.loop-item.exit c.go_out_before-exit.result c.loop-item.kept.items c.keep_if_needed.new.kept.items
    c.loop-item.invariant c.freed-item.ensures c.go_out_before-exit.ensures c.go_before-needed.ensures c.in_ok-keep_if_needed.ensures
