use Rattle.pk_entries.proofs.Frames.{one_kept, one_missing}
use Rattle.pk_entries.proofs.entry.entries_in.Goals as goal

pub returns-in-None : goal.returns-in-None
returns-in-None c =
    let read = rw c.in-None.is at c.in_ok-entry.ensures in
    one_missing c.args.trees.now c.loop-tree.tree-index c.tree-item.result c.loop-tree-test.true c.tree-item.is read

pub loop-tree-preserved : goal.loop-tree-preserved
loop-tree-preserved c =
    let read = rw c.in-Some.is at c.in_ok-entry.ensures in
    one_kept c.args.trees.now c.loop-tree.tree-index c.tree-item.result c.in-Some.entry c.loop-tree.entries.items
    c.push.new.self.items c.loop-tree-test.true c.tree-item.is c.in_ok-push-in-Some.ensures.items read
    c.loop-tree.invariant
