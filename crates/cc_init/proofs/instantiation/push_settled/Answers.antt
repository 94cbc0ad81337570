use Rattle.std.proofs.Common.{◌∙◌, ap}
use Rattle.cc_line.specs.Item.{join}
use Rattle.cc_line.specs.View.{items_view}
use Rattle.cc_init.specs.Init.{list_acts, number_acts, standing_tables, table_acts}
use Rattle.cc_init.proofs.GlobalLemmas.{acts_pushed_twice, alone}
use Rattle.cc_init.proofs.instantiation.push_settled.Goals as goal

pub returns : goal.returns
returns c =
    acts_pushed_twice _ _ _ _ list_acts number_acts (table_acts (standing_tables c.args.bytes)) c.in_ok-push_lists.ensures
    (c.in_ok-push_acts.ensures ∙ ap (λ l. join (items_view c.push_lists.new.items.items) (alone l)) c.numbers.ensures)
    c.in_ok-push_tables.ensures
