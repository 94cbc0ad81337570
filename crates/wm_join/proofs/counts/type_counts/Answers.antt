use Rattle.wm_join.specs.steps.Numbers.{own_types}
use Rattle.wm_join.proofs.CountLaws.{one_more, all_counted, short_library, short_main}
use Rattle.wm_join.proofs.counts.type_counts.Goals as goal

pub type_count-requires : goal.type_count-requires
type_count-requires c = short_library c.args.libs.now c.args.main.now c.loop-library.library-index c.library-item.result c.loop-library-test.true c.library-item.is c.requires.short

pub type_count-requires-2 : goal.type_count-requires-2
type_count-requires-2 c = short_main c.args.libs.now c.args.main.now c.requires.short

pub loop-library-preserved : goal.loop-library-preserved
loop-library-preserved c =
    one_more own_types c.args.libs.now c.args.main.now c.loop-library.counts.items c.push.new.self.items c.loop-library.library-index c.type_count.result c.library-item.result
    c.loop-library-test.true c.library-item.is c.type_count.ensures c.in_ok-push.ensures.items c.loop-library.invariant

pub returns : goal.returns
returns c =
    all_counted own_types c.args.libs.now c.args.main.now c.requires.few (λ m h. h.types) c.requires.short c.loop-library.counts.items c.push-2.new.self.items
    c.loop-library.library-index c.type_count-2.result c.loop-library-test.false c.type_count-2.ensures c.in_ok-push-2.ensures.items c.loop-library.invariant
