use Rattle.wm_match.specs.Space.{own_count}
use Rattle.wm_match.proofs.SpaceLaws.{own_short}
use Rattle.wm_join.proofs.CountLaws.{one_more, all_counted, short_library, short_main}
use Rattle.wm_join.proofs.counts.own_counts.Goals as goal

pub space_count-requires : goal.space_count-requires
space_count-requires c = short_library c.args.libs.now c.args.main.now c.loop-library.library-index c.library-item.result c.loop-library-test.true c.library-item.is c.requires.short

pub space_count-requires-2 : goal.space_count-requires-2
space_count-requires-2 c = short_main c.args.libs.now c.args.main.now c.requires.short

pub loop-library-preserved : goal.loop-library-preserved
loop-library-preserved c =
    one_more (own_count c.args.space) c.args.libs.now c.args.main.now c.loop-library.counts.items c.push.new.self.items c.loop-library.library-index c.space_count.result c.library-item.result
    c.loop-library-test.true c.library-item.is c.space_count.ensures c.in_ok-push.ensures.items c.loop-library.invariant

pub returns : goal.returns
returns c =
    all_counted (own_count c.args.space) c.args.libs.now c.args.main.now c.requires.few (λ m h. own_short 1048576 m h c.args.space) c.requires.short c.loop-library.counts.items c.push-2.new.self.items
    c.loop-library.library-index c.space_count-2.result c.loop-library-test.false c.space_count-2.ensures c.in_ok-push-2.ensures.items c.loop-library.invariant
