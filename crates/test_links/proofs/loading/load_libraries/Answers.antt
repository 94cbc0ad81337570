use Rattle.test_links.proofs.ListLaws.{one_more_short}
use Rattle.test_links.proofs.loading.load_libraries.Goals as goal

-- src/loading.rt:62:5
pub loop-word-preserved : goal.loop-word-preserved
loop-word-preserved c =
    one_more_short c.loop-word.libs.items c.push.new.self.items c.in_ok-load_library.field-0 c.in_ok-push.ensures.items c.in_ok-load_library.ensures c.loop-word.invariant
