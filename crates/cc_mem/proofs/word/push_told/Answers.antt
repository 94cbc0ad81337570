use Rattle.std.proofs.Common.{◌≡◌, subst}
use Rattle.std.specs.Prelude.{OnOk, codes}
use Rattle.cc_line.specs.Item.{Item, first, join, no_more}
use Rattle.cc_line.specs.View.{items_view}
use Rattle.cc_mem.proofs.FillLemmas.{load_filled}
use Rattle.cc_mem.proofs.word.push_told.Goals as goal

pub returns : goal.returns
returns c =
    subst (λ (x : Item). OnOk c.push_fill.result (items_view c.push_fill.new.items.items ≡ join (items_view c.args.items.now.items) (first x no_more)))
    (load_filled (codes "h_mem_told") (codes "#d") _ _ _ _ _ c.choice_site.ensures c.loads.ensures c.told_word.ensures) c.push_fill.ensures
