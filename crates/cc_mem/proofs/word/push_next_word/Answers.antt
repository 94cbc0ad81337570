use Rattle.std.proofs.Common.{◌≡◌, ◌∙◌, ap, subst}
use Rattle.std.specs.Prelude.{OnOk, codes}
use Rattle.cc_line.specs.Item.{Item, Items, call_item, first, join, no_more}
use Rattle.cc_line.specs.View.{items_view}
use Rattle.cc_mem.proofs.word.push_next_word.Goals as goal

pub returns : goal.returns
returns c =
    subst (λ (x : Item). OnOk c.push_item.result (items_view c.push_item.new.items.items ≡ join (items_view c.args.items.now.items) (first x no_more)))
    (c.call.ensures ∙ ap (λ (xs : Items). call_item (codes "h_mem_next") xs) c.in_ok-next.ensures) c.push_item.ensures
