use Rattle.std.proofs.Common.{◌∙◌, ap, sym}
use Rattle.cc_line.specs.Item.{join}
use Rattle.cc_line.specs.View.{items_view}
use Rattle.cc_init.specs.Init.{byte_tables, shift_tables, standing_tables, table_acts}
use Rattle.cc_init.proofs.GlobalLemmas.{acts_pushed, alone}
use Rattle.cc_init.proofs.instantiation.push_tables.Goals.{then-bytes+in_ok-push_acts, else-bytes}
use Rattle.cc_init.proofs.instantiation.push_tables.Goals as goal

pub returns : goal.returns
returns c =
    let shifts = c.in_ok-push_acts-2.ensures ∙ ap (λ l. join (items_view c.if-bytes.items.items) (alone l)) c.shift_tables.ensures in
    elim c.if-bytes.branch [
      | then-bytes+in_ok-push_acts w ↦
          acts_pushed _ _ _ (table_acts byte_tables) (table_acts shift_tables)
          (ap (λ v. items_view v.items) w.items-is ∙ w.in_ok-push_acts.ensures ∙ ap (λ l. join (items_view c.args.items.now.items) (alone l)) w.byte_tables.ensures) shifts
          ∙ ap (λ b. join (items_view c.args.items.now.items) (alone (table_acts (standing_tables b)))) (sym w.if-bytes.true)
      | else-bytes w ↦
          shifts
          ∙ ap (λ v. join (items_view v.items) (alone (table_acts shift_tables))) w.items-is
          ∙ ap (λ b. join (items_view c.args.items.now.items) (alone (table_acts (standing_tables b)))) (sym w.if-bytes.false)
    ]
