use Rattle.std.proofs.Common.{arith}
use Rattle.std.proofs.lemmas.Grind.{common_steps}
use Rattle.std.proofs.lemmas.List.{drop_all}
use Rattle.cc_tails.proofs.CopyLemmas.{all_copied, copied_on}
use Rattle.cc_tails.proofs.copy.+copy.Goals as goal

pub copy_of_items-loop-item-preserved : goal.copy_of_items-loop-item-preserved
copy_of_items-loop-item-preserved t c = copied_on _ _ _ _ _ _ _ c.in_ok-push.ensures.items (grind (arith, common_steps, c.loop-item-test.true)) c.in_ok-copy_of_item.ensures c.loop-item.invariant

pub copy_of_items-returns : goal.copy_of_items-returns
copy_of_items-returns t c = all_copied _ _ _ (drop_all c.loop-item.item-index c.args.items.now c.loop-item-test.false) c.loop-item.invariant
